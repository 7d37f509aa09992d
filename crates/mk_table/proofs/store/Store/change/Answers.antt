use Rattle.std.proofs.Common.{◌+◌, ◌-◌, take, drop, arith, ap, sym, subst, ◌∙◌}
use Rattle.mk_scope.specs.Scopes.{ScopeOf, cells_in}
use Rattle.mk_passes.specs.Parts.{IsFull}
use Rattle.mk_table.specs.inner.Changes.{Fits, HasMade}
use Rattle.mk_table.proofs.Lent.{IsRange, is_range, Lends, is_lent, has_passed, fit_lent, made_passed}
use Rattle.mk_table.specs.inner.Store.{store_tables}
use Rattle.mk_table.specs.Lists.{table_in}
use Rattle.mk_table.proofs.store.Store.change.Goals as goal
use Rattle.mk_table.proofs.store.Store.change.Goals.{After-cells, After-deref_mut-2}

range : (c : After-cells) → IsRange c.written-first.new.self c.written-first.result c.cells.result
range c = is_range _ c.written-first.new.self c.written-first.ensures.same.opened.store _ c.requires.table _ c.written-first.ensures.place _ (c.cells.ensures.cells ∙ ap cells_in c.scope-scope.ensures)

lends : (c : After-deref_mut-2) → Lends c.args.scopes.now c.args.self.now c.written-first.new.self c.args.k c.written-first.result c.cells.result c.deref_mut.result.now c.deref_mut-2.result.now
lends c = record {
  same = c.written-first.ensures.same;
  within = c.requires.table;
  place = c.written-first.ensures.place;
  counted = c.cells.ensures.cells ∙ ap cells_in c.scope-scope.ensures;
  digits = c.deref_mut.ensures.value;
  exponents = c.deref_mut-2.ensures.value;
}

pub overflow_add-end : goal.overflow_add-end
overflow_add-end c = let r = range (goal.at.overflow_add-end c).After-cells in let s = c.written-first.new.self in omega (arith, r.digits, r.exponents, s.digits.ok.0, s.exponents.ok.0)

pub offset_bounds-deref_mut-first : goal.offset_bounds-deref_mut-first
offset_bounds-deref_mut-first c = let r = range (goal.at.offset_bounds-deref_mut-first c).After-cells in let s = c.written-first.new.self in omega (arith, r.digits, r.exponents, s.digits.ok.0, s.exponents.ok.0, c.deref_mut.ensures.len)

pub slice_bounds-make-end : goal.slice_bounds-make-end
slice_bounds-make-end c = let r = range (goal.at.slice_bounds-make-end c).After-cells in let s = c.written-first.new.self in omega (arith, r.digits, r.exponents, s.digits.ok.0, s.exponents.ok.0, c.deref_mut.ensures.len)

pub offset_bounds-deref_mut-first-2 : goal.offset_bounds-deref_mut-first-2
offset_bounds-deref_mut-first-2 c = let r = range (goal.at.offset_bounds-deref_mut-first-2 c).After-cells in let s = c.written-first.new.self in omega (arith, r.digits, r.exponents, s.digits.ok.0, s.exponents.ok.0, c.deref_mut-2.ensures.len)

pub slice_bounds-make-end-2 : goal.slice_bounds-make-end-2
slice_bounds-make-end-2 c = let r = range (goal.at.slice_bounds-make-end-2 c).After-cells in let s = c.written-first.new.self in omega (arith, r.digits, r.exponents, s.digits.ok.0, s.exponents.ok.0, c.deref_mut-2.ensures.len)

pub make-requires-clause-full : goal.make-requires-clause-full
make-requires-clause-full c =
    let lend = is_lent (lends (goal.at.make-requires-clause-full c).After-deref_mut-2) in let first = c.written-first.result in let range = first + c.cells.result - first in
    subst (λ (x : ScopeOf). IsFull x (take range (drop first c.deref_mut.result.now)) (take range (drop first c.deref_mut-2.result.now))) (sym c.scope-scope.ensures) lend.full

pub make-requires-clause-fits : goal.make-requires-clause-fits
make-requires-clause-fits c = fit_lent (Fits c.args.change) _ _ c.scope-scope.ensures _ _ _ (is_lent (lends (goal.at.make-requires-clause-fits c).After-deref_mut-2)) c.requires.fits

pub returns-clause-cells : goal.returns-clause-cells
returns-clause-cells c = (has_passed (lends (goal.at.returns-clause-cells c).After-deref_mut-2) _ _ c.make.ensures.digits c.make.ensures.exponents).cells

pub returns-clause-made : goal.returns-clause-made
returns-clause-made c =
    let at = (goal.at.returns-clause-made c).After-deref_mut-2 in let made = has_passed (lends at) _ _ c.make.ensures.digits c.make.ensures.exponents in
    made_passed (HasMade c.args.change) _ _ c.scope-scope.ensures (table_in (store_tables c.args.scopes.now c.args.self.now) c.args.k) _ _ _ _ _ _ (is_lent (lends at)) made.digits made.exponents c.make.ensures.made
