use Rattle.std.proofs.Common.{◌≡◌, ℕ, ◌++◌, List, length, set, arith, ap, sym, subst, ◌∙◌}
use Rattle.std.specs.Prelude.{vec_capacity}
use Rattle.std.proofs.lemmas.List.{length-set}
use Rattle.mk_scope.specs.Scopes.{cells_in}
use Rattle.mk_table.specs.declared.store.Place.TheVariants.{Written}
use Rattle.mk_table.specs.declared.store.Head.{Head}
use Rattle.mk_table.specs.inner.Store.{IsStore, scope_in, tables_of}
use Rattle.mk_table.proofs.Stored.{head_is, store_more}
use Rattle.mk_table.proofs.Ranges.{room_at_end, end_store, end_tables}
use Rattle.mk_table.proofs.store.Store.put_end.Goals as goal

pub append-requires : goal.append-requires
append-requires c =
    let s = c.args.self.now in let room = room_at_end _ s c.requires.opened c.args.k c.requires.table c.requires.nowhere in
    omega (arith, room.0, s.digits.ok.0, c.deref.ensures.len, c.args.spare.now.digits.ok.0, c.requires.digits)

pub append-requires-2 : goal.append-requires-2
append-requires-2 c =
    let s = c.args.self.now in let room = room_at_end _ s c.requires.opened c.args.k c.requires.table c.requires.nowhere in
    omega (arith, room.1, s.exponents.ok.0, c.requires.opened.store.same_length, c.deref-2.ensures.len, c.args.spare.now.exponents.ok.0, c.requires.exponents)

pub returns : goal.returns
returns c =
    let s = c.args.self.now in let scopes = c.args.scopes.now in let C = cells_in (scope_in scopes c.args.k) in
    let read = head_is _ _ _ _ _ _ _ c.requires.opened.store c.requires.opened.heads c.args.k c.requires.table c.index_mut.result.now c.index_mut.ensures.value in
    let h : Head = record { place = Written c.len.result; shift = c.index_mut.result.now.shift; touched = c.index_mut.result.now.touched } in
    let long : c.len.result ≡ length s.digits.items = omega (arith, c.len.ensures, s.digits.ok.0) in
    let digits : c.append.new.values.items ≡ s.digits.items ++ c.args.spare.now.digits.items = c.append.ensures.items ∙ ap (λ (ys : List ℕ). s.digits.items ++ ys) c.deref.ensures.value in
    let exponents : c.append-2.new.values.items ≡ s.exponents.items ++ c.args.spare.now.exponents.items = c.append-2.ensures.items ∙ ap (λ (ys : List ℕ). s.exponents.items ++ ys) c.deref-2.ensures.value in
    record {
      opened = record {
        store =
            subst (λ (ys : List ℕ). IsStore scopes (set s.heads.items c.args.k h) ys c.append-2.new.values.items (vec_capacity s.heads) (vec_capacity c.append.new.values) (vec_capacity c.append-2.new.values)) (sym digits)
            (subst (λ (ys : List ℕ). IsStore scopes (set s.heads.items c.args.k h) (s.digits.items ++ c.args.spare.now.digits.items) ys (vec_capacity s.heads) (vec_capacity c.append.new.values) (vec_capacity c.append-2.new.values)) (sym exponents)
            (store_more _ _ _ _ _ (vec_capacity s.digits) (vec_capacity s.exponents) _ _ c.append.ensures.room c.append-2.ensures.room
            (end_store scopes s.heads.items s.digits.items s.exponents.items _ _ _ c.requires.opened.store c.requires.opened.heads c.args.k c.requires.table c.requires.nowhere h (ap Written long) (ap (λ (y : Head). y.shift) read) (ap (λ (y : Head). y.touched) read)
            c.args.spare.now.digits.items c.args.spare.now.exponents.items c.requires.digits c.requires.exponents)));
        heads = length-set s.heads.items c.args.k h ∙ c.requires.opened.heads;
      };
      tables =
          ap (λ (ys : List ℕ). tables_of scopes (set s.heads.items c.args.k h) ys c.append-2.new.values.items) digits
          ∙ ap (λ (ys : List ℕ). tables_of scopes (set s.heads.items c.args.k h) (s.digits.items ++ c.args.spare.now.digits.items) ys) exponents
          ∙ end_tables scopes s.heads.items s.digits.items s.exponents.items _ _ _ c.requires.opened.store c.requires.opened.heads c.args.k c.requires.table c.requires.nowhere h (ap Written long) (ap (λ (y : Head). y.shift) read) (ap (λ (y : Head). y.touched) read)
          c.args.spare.now.digits.items c.args.spare.now.exponents.items c.requires.digits c.requires.exponents;
    }
