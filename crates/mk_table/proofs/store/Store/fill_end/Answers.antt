use Rattle.std.proofs.Common.{◌≡◌, ℕ, ◌++◌, List, length, replicate, set, arith, ap, sym, subst, ◌∙◌}
use Rattle.std.specs.Prelude.{vec_capacity}
use Rattle.std.proofs.lemmas.List.{length-replicate, length-set}
use Rattle.mk_scope.specs.Scopes.{cells_in}
use Rattle.mk_table.specs.declared.store.Place.TheVariants.{Nowhere, Written}
use Rattle.mk_table.specs.declared.store.Head.{Head}
use Rattle.mk_passes.specs.Blank.{one_digits, one_exponent}
use Rattle.mk_table.specs.inner.Store.{IsStore, scope_in, tables_of}
use Rattle.mk_table.proofs.Stored.{head_is, store_more, blank_already}
use Rattle.mk_table.proofs.Ranges.{room_at_end, end_store, end_tables, filled_end}
use Rattle.mk_table.proofs.store.Store.fill_end.Goals as goal

pub append_until-requires : goal.append_until-requires
append_until-requires c =
    let s = c.args.self.now in let room = room_at_end _ s c.requires.opened c.args.k c.requires.table c.requires.nowhere in
    omega (arith, room.0, s.digits.ok.0, c.len-first.ensures, c.cells-count.ensures.cells, ap cells_in c.scope.ensures)

pub append_until-requires-2 : goal.append_until-requires-2
append_until-requires-2 c =
    let s = c.args.self.now in let room = room_at_end _ s c.requires.opened c.args.k c.requires.table c.requires.nowhere in
    omega (arith, room.1, s.digits.ok.0, s.exponents.ok.0, c.len-first.ensures, c.cells-count.ensures.cells, ap cells_in c.scope.ensures)

pub returns-clause-same : goal.returns-clause-same
returns-clause-same c =
    let s = c.args.self.now in let scopes = c.args.scopes.now in let C = cells_in (scope_in scopes c.args.k) in
    let read = head_is _ _ _ _ _ _ _ c.requires.opened.store c.requires.opened.heads c.args.k c.requires.table c.index_mut.result.now c.index_mut.ensures.value in
    let h : Head = record { place = Written c.len-first.result; shift = c.index_mut.result.now.shift; touched = c.index_mut.result.now.touched } in
    let long : c.len-first.result ≡ length s.digits.items = omega (arith, c.len-first.ensures, s.digits.ok.0) in
    let counted = c.cells-count.ensures.cells ∙ ap cells_in c.scope.ensures in
    let digits : c.append_until.new.values.items ≡ s.digits.items ++ replicate C one_digits =
    c.append_until.ensures.items ∙ filled_end c.one-one.result.digits C s.digits.items _ (omega (arith, long, counted)) ∙ ap (λ x. s.digits.items ++ replicate C x) c.one-one.ensures.digits in
    let exponents : c.append_until-2.new.values.items ≡ s.exponents.items ++ replicate C one_exponent =
    c.append_until-2.ensures.items ∙ filled_end c.one-one.result.exponent C s.exponents.items _ (omega (arith, long, counted, c.requires.opened.store.same_length)) ∙ ap (λ x. s.exponents.items ++ replicate C x) c.one-one.ensures.exponent in
    record {
      opened = record {
        store =
            subst (λ (ys : List ℕ). IsStore scopes (set s.heads.items c.args.k h) ys c.append_until-2.new.values.items (vec_capacity s.heads) (vec_capacity c.append_until.new.values) (vec_capacity c.append_until-2.new.values)) (sym digits)
            (subst (λ (ys : List ℕ). IsStore scopes (set s.heads.items c.args.k h) (s.digits.items ++ (replicate C one_digits)) ys (vec_capacity s.heads) (vec_capacity c.append_until.new.values) (vec_capacity c.append_until-2.new.values)) (sym exponents)
            (store_more _ _ _ _ _ (vec_capacity s.digits) (vec_capacity s.exponents) _ _ (omega (arith, c.append_until.ensures.room)) (omega (arith, c.append_until-2.ensures.room))
            (end_store scopes s.heads.items s.digits.items s.exponents.items _ _ _ c.requires.opened.store c.requires.opened.heads c.args.k c.requires.table c.requires.nowhere h (ap Written long) (ap (λ (y : Head). y.shift) read) (ap (λ (y : Head). y.touched) read)
            (replicate C one_digits) (replicate C one_exponent) (length-replicate C one_digits) (length-replicate C one_exponent))));
        heads = length-set s.heads.items c.args.k h ∙ c.requires.opened.heads;
      };
      tables =
          ap (λ (ys : List ℕ). tables_of scopes (set s.heads.items c.args.k h) ys c.append_until-2.new.values.items) digits
          ∙ ap (λ (ys : List ℕ). tables_of scopes (set s.heads.items c.args.k h) (s.digits.items ++ (replicate C one_digits)) ys) exponents
          ∙ end_tables scopes s.heads.items s.digits.items s.exponents.items _ _ _ c.requires.opened.store c.requires.opened.heads c.args.k c.requires.table c.requires.nowhere h (ap Written long) (ap (λ (y : Head). y.shift) read) (ap (λ (y : Head). y.touched) read)
          (replicate C one_digits) (replicate C one_exponent) (length-replicate C one_digits) (length-replicate C one_exponent)
          ∙ sym (blank_already scopes s.heads.items s.digits.items s.exponents.items c.args.k c.requires.table (λ g i. let q : Nowhere ≡ Written g = sym c.requires.nowhere ∙ i in absurd (cc)));
    }
