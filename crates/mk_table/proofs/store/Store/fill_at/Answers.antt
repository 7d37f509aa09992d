use Rattle.std.proofs.Common.{◌≡◌, ℕ, List, length, replicate, set, arith, ap, sym, ◌∙◌, refl}
use Rattle.std.proofs.lemmas.List.{length-replicate, length-set}
use Rattle.mk_scope.specs.Scopes.{cells_in}
use Rattle.mk_table.specs.Lists.{table_in}
use Rattle.mk_table.specs.declared.store.Place.TheVariants.{Blank, Written}
use Rattle.mk_table.specs.declared.store.Head.{Head}
use Rattle.mk_passes.specs.Blank.{one_digits, one_exponent}
use Rattle.mk_table.specs.inner.Store.{scope_in, tables_of, with_cells}
use Rattle.mk_table.proofs.Stored.{head_is, blank_already}
use Rattle.mk_table.proofs.Ranges.{over_store, over_tables, part_long}
use Rattle.mk_table.proofs.store.Store.fill_at.Goals as goal

pub returns-clause-same : goal.returns-clause-same
returns-clause-same c =
    let s = c.args.self.now in let scopes = c.args.scopes.now in let C = cells_in (scope_in scopes c.args.k) in
    let read = head_is _ _ _ _ _ _ _ c.requires.opened.store c.requires.opened.heads c.args.k c.requires.table c.index_mut.result.now c.index_mut.ensures.value in
    let h : Head = record { place = Written c.args.first; shift = c.index_mut.result.now.shift; touched = c.index_mut.result.now.touched } in
    let counted = c.cells-count.ensures.cells ∙ ap cells_in c.scope.ensures in
    let fits = c.requires.opened.store.placed c.args.k c.args.first c.requires.table c.requires.stands in
    let digits : c.put_each.new.values ≡ replicate C one_digits = c.put_each.ensures ∙ ap (λ n. replicate n c.one-one.result.digits) (part_long c.args.first c.cells-count.result C c.deref_mut.result.now s.digits.items counted c.deref_mut.ensures.value fits)
    ∙ ap (replicate C) c.one-one.ensures.digits in
    let exponents : c.put_each-2.new.values ≡ replicate C one_exponent = c.put_each-2.ensures
    ∙ ap (λ n. replicate n c.one-one.result.exponent) (part_long c.args.first c.cells-count.result C c.deref_mut-2.result.now s.exponents.items counted c.deref_mut-2.ensures.value (omega (arith, fits, c.requires.opened.store.same_length)))
    ∙ ap (replicate C) c.one-one.ensures.exponent in
    let T = tables_of scopes s.heads.items s.digits.items s.exponents.items in
    record {
      opened = record {
        store =
            over_store scopes s.heads.items s.digits s.exponents _ _ _ c.requires.opened.store c.requires.opened.heads c.args.k c.requires.table c.args.first c.requires.stands h refl (ap (λ (y : Head). y.shift) read) (ap (λ (y : Head). y.touched) read)
            c.cells-count.result counted c.deref_mut.result.now c.deref_mut-2.result.now c.deref_mut.ensures.value c.deref_mut-2.ensures.value c.put_each.new.values c.put_each-2.new.values (ap (λ (ys : List ℕ). length ys) digits ∙ length-replicate C one_digits) (ap (λ (ys : List ℕ). length ys) exponents ∙ length-replicate C one_exponent) (omega (arith, s.digits.ok.0)) (omega (arith, s.exponents.ok.0));
        heads = length-set s.heads.items c.args.k h ∙ c.requires.opened.heads;
      };
      tables =
          over_tables scopes s.heads.items s.digits s.exponents _ _ _ c.requires.opened.store c.requires.opened.heads c.args.k c.requires.table c.args.first c.requires.stands h refl (ap (λ (y : Head). y.shift) read) (ap (λ (y : Head). y.touched) read)
          c.cells-count.result counted c.deref_mut.result.now c.deref_mut-2.result.now c.deref_mut.ensures.value c.deref_mut-2.ensures.value c.put_each.new.values c.put_each-2.new.values (ap (λ (ys : List ℕ). length ys) digits ∙ length-replicate C one_digits) (ap (λ (ys : List ℕ). length ys) exponents ∙ length-replicate C one_exponent) (omega (arith, s.digits.ok.0)) (omega (arith, s.exponents.ok.0))
          ∙ ap (λ (ys : List ℕ). set T c.args.k (with_cells (table_in T c.args.k) ys c.put_each-2.new.values)) digits
          ∙ ap (λ (ys : List ℕ). set T c.args.k (with_cells (table_in T c.args.k) (replicate C one_digits) ys)) exponents
          ∙ sym (blank_already scopes s.heads.items s.digits.items s.exponents.items c.args.k c.requires.table (λ g i. let q : Blank c.args.first ≡ Written g = sym c.requires.blank ∙ i in absurd (cc)));
    }
