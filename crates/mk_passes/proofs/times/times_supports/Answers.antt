use Rattle.std.proofs.Common.{◌≡◌, ◌<◌, ℕ, length, subst, arith}
use Rattle.mk_sums.specs.There.{support_there}
use Rattle.mk_cell.specs.Cell.{StandsAt}
use Rattle.mk_scope.specs.Scopes.{cells_in}
use Rattle.mk_scope.specs.Cells.{values_at}
use Rattle.mk_passes.specs.Parts.{IsTimes, IsChanged}
use Rattle.mk_passes.proofs.Changes.{left_cell, whole_cell, written_below}
use Rattle.mk_passes.proofs.times.times_supports.Goals as goal

pub times_at-requires-clause-cell : goal.times_at-requires-clause-cell
times_at-requires-clause-cell c =
    left_cell _ _ c.args.digits.now c.args.exponents.now c.loop-cell.digits c.loop-cell.exponents c.requires.room.0 1 c.loop-cell.cell c.requires.room.1 c.loop-cell.invariant (λ p. omega arith)
    (omega (arith, c.loop-cell-test.true))

pub times_at-requires-clause-other : goal.times_at-requires-clause-other
times_at-requires-clause-other c = whole_cell 0 _ _ _ (omega arith) c.of_whole.ensures

pub loop-cell-preserved : goal.loop-cell-preserved
loop-cell-preserved c =
    let share : ℕ → ℕ = λ k. support_there c.args.net.now c.args.variable (values_at c.args.scope.now k) in
    let n = c.loop-cell.cell in
    let l : n < length c.args.digits.now = omega (arith, c.loop-cell-test.true) in
    written_below (λ k d e x y. IsTimes d e 0 (share k) 0 x y) c.args.digits.now c.args.exponents.now c.loop-cell.digits c.loop-cell.exponents c.times_at.new.digits c.times_at.new.exponents n
    l (omega (arith, l, c.requires.full.as_many_digits, c.requires.full.as_many_exponents)) c.loop-cell.invariant c.times_at.ensures.digits c.times_at.ensures.exponents
    (c.times_at.ensures.times 0 (share n) 0 (subst (λ w. StandsAt 0 c.of_whole.result.digits c.of_whole.result.exponent w 0) (rw c.share_of-share.ensures at c.support_of.ensures) c.of_whole.ensures))

pub returns : goal.returns
returns c =
    let share : ℕ → ℕ = λ k. support_there c.args.net.now c.args.variable (values_at c.args.scope.now k) in
    let e : c.loop-cell.cell ≡ cells_in c.args.scope.now = omega (arith, c.requires.full.as_many_digits, c.loop-cell-test.false) in
    subst (λ n. IsChanged (λ k d e x y. IsTimes d e 0 (share k) 0 x y) (λ k. k < n) c.args.digits.now c.args.exponents.now c.loop-cell.digits c.loop-cell.exponents) e c.loop-cell.invariant
