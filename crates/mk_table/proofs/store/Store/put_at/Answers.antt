use Rattle.std.proofs.Common.{◌≡◌, ℕ, List, length, set, arith, ap, ◌∙◌, refl}
use Rattle.std.proofs.lemmas.List.{length-set}
use Rattle.mk_scope.specs.Scopes.{cells_in}
use Rattle.mk_table.specs.Lists.{table_in}
use Rattle.mk_table.specs.declared.store.Place.TheVariants.{Written}
use Rattle.mk_table.specs.declared.store.Head.{Head}
use Rattle.mk_table.specs.inner.Store.{scope_in, tables_of, with_cells}
use Rattle.mk_table.proofs.Stored.{head_is}
use Rattle.mk_table.proofs.Ranges.{over_store, over_tables}
use Rattle.mk_table.proofs.store.Store.put_at.Goals as goal

pub returns : goal.returns
returns c =
    let s = c.args.self.now in let scopes = c.args.scopes.now in let C = cells_in (scope_in scopes c.args.k) in
    let read = head_is _ _ _ _ _ _ _ c.requires.opened.store c.requires.opened.heads c.args.k c.requires.table c.index_mut.result.now c.index_mut.ensures.value in
    let h : Head = record { place = Written c.args.first; shift = c.index_mut.result.now.shift; touched = c.index_mut.result.now.touched } in
    let counted = c.cells-count.ensures.cells ∙ ap cells_in c.scope.ensures in
    let digits : c.put_over.new.digits ≡ c.args.spare.now.digits.items = c.put_over.ensures.digits ∙ c.deref.ensures.value in
    let exponents : c.put_over.new.exponents ≡ c.args.spare.now.exponents.items = c.put_over.ensures.exponents ∙ c.deref-2.ensures.value in
    let T = tables_of scopes s.heads.items s.digits.items s.exponents.items in
    record {
      opened = record {
        store =
            over_store scopes s.heads.items s.digits s.exponents _ _ _ c.requires.opened.store c.requires.opened.heads c.args.k c.requires.table c.args.first c.requires.stands h refl (ap (λ (y : Head). y.shift) read) (ap (λ (y : Head). y.touched) read)
            c.cells-count.result counted c.deref_mut.result.now c.deref_mut-2.result.now c.deref_mut.ensures.value c.deref_mut-2.ensures.value c.put_over.new.digits c.put_over.new.exponents (ap (λ (ys : List ℕ). length ys) digits ∙ c.requires.digits) (ap (λ (ys : List ℕ). length ys) exponents ∙ c.requires.exponents) (omega (arith, s.digits.ok.0)) (omega (arith, s.exponents.ok.0));
        heads = length-set s.heads.items c.args.k h ∙ c.requires.opened.heads;
      };
      tables =
          over_tables scopes s.heads.items s.digits s.exponents _ _ _ c.requires.opened.store c.requires.opened.heads c.args.k c.requires.table c.args.first c.requires.stands h refl (ap (λ (y : Head). y.shift) read) (ap (λ (y : Head). y.touched) read)
          c.cells-count.result counted c.deref_mut.result.now c.deref_mut-2.result.now c.deref_mut.ensures.value c.deref_mut-2.ensures.value c.put_over.new.digits c.put_over.new.exponents (ap (λ (ys : List ℕ). length ys) digits ∙ c.requires.digits) (ap (λ (ys : List ℕ). length ys) exponents ∙ c.requires.exponents) (omega (arith, s.digits.ok.0)) (omega (arith, s.exponents.ok.0))
          ∙ ap (λ (ys : List ℕ). set T c.args.k (with_cells (table_in T c.args.k) ys c.put_over.new.exponents)) digits
          ∙ ap (λ (ys : List ℕ). set T c.args.k (with_cells (table_in T c.args.k) c.args.spare.now.digits.items ys)) exponents;
    }
