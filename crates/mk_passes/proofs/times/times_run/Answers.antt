use Rattle.std.proofs.Common.{◌≡◌, ◌+◌, arith}
use Rattle.mk_passes.specs.Parts.{IsTimesCell}
use Rattle.mk_scope.specs.Runs.{IsBetween}
use Rattle.mk_passes.proofs.Changes.{cell_left, changed_none, changed_where, written_between}
use Rattle.mk_passes.proofs.times.times_run.Goals as goal

pub loop-cell-init : goal.loop-cell-init
loop-cell-init c = changed_none _ (IsBetween c.args.first c.args.first) c.args.digits.now c.args.exponents.now (λ k p. let f = p.from in let b = p.below in omega (arith, f, b))

pub times_at-requires-clause-within : goal.times_at-requires-clause-within
times_at-requires-clause-within c = omega (arith, c.loop-cell-test.true, c.requires.within, c.loop-cell.invariant.as_many_digits)

pub times_at-requires-clause-within_exponents : goal.times_at-requires-clause-within_exponents
times_at-requires-clause-within_exponents c = omega (arith, c.loop-cell-test.true, c.requires.within_exponents, c.loop-cell.invariant.as_many_exponents)

pub times_at-requires-clause-cell : goal.times_at-requires-clause-cell
times_at-requires-clause-cell c =
    let n = c.loop-cell.cell in
    cell_left _ (IsBetween c.args.first n) c.args.digits.now c.args.exponents.now c.loop-cell.digits c.loop-cell.exponents n c.loop-cell.invariant
    (λ p. let b = p.below in omega (arith, b)) (c.requires.cells n (record { from = c.loop-cell.auto.cell; below = c.loop-cell-test.true }))

pub loop-cell-preserved : goal.loop-cell-preserved
loop-cell-preserved c =
    let n = c.loop-cell.cell in let l = c.loop-cell-test.true in
    written_between (λ k d e x y. IsTimesCell d e c.args.other.digits c.args.other.exponent x y) c.args.first c.args.digits.now c.args.exponents.now c.loop-cell.digits c.loop-cell.exponents
    c.times_at.new.digits c.times_at.new.exponents n c.loop-cell.auto.cell (omega (arith, l, c.requires.within)) (omega (arith, l, c.requires.within_exponents))
    c.loop-cell.invariant c.times_at.ensures.digits c.times_at.ensures.exponents (record { times = c.times_at.ensures.times })

pub returns : goal.returns
returns c =
    let first = c.args.first in let last = first + c.args.run in let n = c.loop-cell.cell in
    let e : n ≡ last = let t = c.loop-cell-test.false in let u = c.loop-cell.auto.cell-end in omega (arith, t, u) in
    changed_where (λ k d e x y. IsTimesCell d e c.args.other.digits c.args.other.exponent x y) (IsBetween first n) (IsBetween first last) c.args.digits.now c.args.exponents.now c.loop-cell.digits c.loop-cell.exponents
    (λ k p. record { from = p.from; below = let b = p.below in omega (arith, b, e) }) (λ k p. record { from = p.from; below = let b = p.below in omega (arith, b, e) }) c.loop-cell.invariant
