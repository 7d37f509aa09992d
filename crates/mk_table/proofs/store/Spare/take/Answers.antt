use Rattle.std.proofs.Common.{ℕ, ◌++◌, ◌∷◌, [], List, length, slice_index_or, refl, sym, ap, subst, arith, ◌∙◌}
use Rattle.std.proofs.lemmas.List.{take_more, take_all, length-take-le}
use Rattle.mk_scope.specs.Scopes.{cells_in}
use Rattle.mk_passes.specs.Blank.{one_digits, one_exponent, filled}
use Rattle.mk_passes.specs.Parts.{AreBlankOrFull}
use Rattle.mk_table.specs.inner.Store.{scope_in}
use Rattle.mk_passes.proofs.Filled.{at_most}
use Rattle.mk_table.proofs.Copied.{as_many_exponents}
use Rattle.mk_table.proofs.store.Spare.take.Goals as goal

pub loop-cell-init : goal.loop-cell-init
loop-cell-init c = record {
  digits = c.clear.ensures.digits;
  exponents = c.clear.ensures.exponents;
  digits_room = refl;
  exponents_room = refl;
}

pub push_reserved-requires : goal.push_reserved-requires
push_reserved-requires c =
    let d = c.cells.result.0.now in let i = c.loop-cell.cell in
    let few = at_most _ d c.cells.result.1.now c.cells.ensures.whole in
    let long = ap (λ (xs : List ℕ). length xs) c.loop-cell.invariant.digits ∙ length-take-le i d (omega (arith, c.loop-cell-test.true)) in
    omega (arith, few.0, long, c.loop-cell.self.digits.ok.0, c.loop-cell-test.true, c.loop-cell.invariant.digits_room, c.clear.ensures.digits_room, c.requires.digits_fit)

pub push_reserved-requires-in-loop-cell : goal.push_reserved-requires-in-loop-cell
push_reserved-requires-in-loop-cell c =
    let e = c.cells.result.1.now in let i = c.loop-cell.cell in
    let few = at_most _ c.cells.result.0.now e c.cells.ensures.whole in
    let same = as_many_exponents _ c.cells.result.0.now e c.cells.ensures.whole in
    let long = ap (λ (xs : List ℕ). length xs) c.loop-cell.invariant.exponents ∙ length-take-le i e (omega (arith, c.loop-cell-test.true, same)) in
    omega (arith, few.1, same, long, c.loop-cell.self.exponents.ok.0, c.loop-cell-test.true, c.loop-cell.invariant.exponents_room, c.clear.ensures.exponents_room, c.requires.exponents_fit)

pub loop-cell-preserved : goal.loop-cell-preserved
loop-cell-preserved c =
    let d = c.cells.result.0.now in let e = c.cells.result.1.now in let i = c.loop-cell.cell in
    let same = as_many_exponents _ d e c.cells.ensures.whole in
    record {
      digits = c.push_reserved.ensures.items ∙ ap (λ (xs : List ℕ). xs ++ slice_index_or d i 0 ∷ []) c.loop-cell.invariant.digits ∙ sym (take_more d i 0 c.loop-cell-test.true);
      exponents = c.push_reserved-in-loop-cell.ensures.items ∙ ap (λ (xs : List ℕ). xs ++ slice_index_or e i 0 ∷ []) c.loop-cell.invariant.exponents
          ∙ sym (take_more e i 0 (omega (arith, c.loop-cell-test.true, same)));
      digits_room = c.push_reserved.ensures.capacity ∙ c.loop-cell.invariant.digits_room;
      exponents_room = c.push_reserved-in-loop-cell.ensures.capacity ∙ c.loop-cell.invariant.exponents_room;
    }

pub returns-clause-whole : goal.returns-clause-whole
returns-clause-whole c =
    let d = c.cells.result.0.now in let e = c.cells.result.1.now in let i = c.loop-cell.cell in
    let same = as_many_exponents _ d e c.cells.ensures.whole in
    let digits = c.loop-cell.invariant.digits ∙ take_all i d (omega (arith, c.loop-cell-test.false)) in
    let exponents = c.loop-cell.invariant.exponents ∙ take_all i e (omega (arith, c.loop-cell-test.false, same)) in
    subst (λ (xs : List ℕ). AreBlankOrFull (cells_in (scope_in c.args.scopes.now c.args.k)) xs c.loop-cell.self.exponents.items) (sym digits)
    (subst (λ (xs : List ℕ). AreBlankOrFull (cells_in (scope_in c.args.scopes.now c.args.k)) d xs) (sym exponents) c.cells.ensures.whole)

pub returns-clause-digits : goal.returns-clause-digits
returns-clause-digits c =
    let d = c.cells.result.0.now in let i = c.loop-cell.cell in
    let digits = c.loop-cell.invariant.digits ∙ take_all i d (omega (arith, c.loop-cell-test.false)) in
    ap (filled one_digits (cells_in (scope_in c.args.scopes.now c.args.k))) digits ∙ c.cells.ensures.digits

pub returns-clause-exponents : goal.returns-clause-exponents
returns-clause-exponents c =
    let d = c.cells.result.0.now in let e = c.cells.result.1.now in let i = c.loop-cell.cell in
    let same = as_many_exponents _ d e c.cells.ensures.whole in
    let exponents = c.loop-cell.invariant.exponents ∙ take_all i e (omega (arith, c.loop-cell-test.false, same)) in
    ap (filled one_exponent (cells_in (scope_in c.args.scopes.now c.args.k))) exponents ∙ c.cells.ensures.exponents
