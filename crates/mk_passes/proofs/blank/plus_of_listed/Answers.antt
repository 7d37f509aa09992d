use Rattle.std.proofs.Common.{◌+◌, ◌-◌, ◌*◌, length, arith, subst, sym}
use Rattle.mk_cell.specs.inner.Laws.{stands_with_more}
use Rattle.mk_states.specs.States.{plus_over}
use Rattle.mk_cell.specs.Cell.{StandsAt}
use Rattle.mk_scope.specs.Runs.{runs_of}
use Rattle.mk_scope.proofs.Runs.{length-runs}
use Rattle.mk_passes.proofs.Filled.{all_blank, full_room, full_listed}
use Rattle.mk_passes.proofs.OnesSum.{ones_listed}
use Rattle.mk_passes.proofs.blank.plus_of_listed.Goals as goal

pub overflow_mul-firsts : goal.overflow_mul-firsts
overflow_mul-firsts g c = let e = length-runs c.args.run c.args.firsts.now in omega (arith, e, c.requires.few)

pub plus_of_ones-requires : goal.plus_of_ones-requires
plus_of_ones-requires g c = let e = length-runs c.args.run c.args.firsts.now in omega (arith, e, c.requires.few)

pub plus_at-requires-clause-room : goal.plus_at-requires-clause-room
plus_at-requires-clause-room g c =
    (c.requires.room.0, full_room c.args.cells c.args.digits.now c.args.exponents.now c.requires.whole c.if-digits-cells.false c.requires.room.0 _ c.requires.room.1)

pub returns-then-digits-cells : goal.returns-then-digits-cells
returns-then-digits-cells g c = λ k f n h.
    let d = c.args.digits.now in let e = c.args.exponents.now in let blank = all_blank c.args.cells d e c.requires.whole c.if-digits-cells.true in
    let xs = runs_of c.args.run c.args.firsts.now in let R = g.R.Semiring in let long = length-runs c.args.run c.args.firsts.now in
    stands_with_more k _ _ _ (n + (2 * length xs - 1)) (n + 2 * length xs) (omega arith)
    (subst (λ m. StandsAt k c.plus_of_ones.result.digits c.plus_of_ones.result.exponent (plus_over R.plus_of 0 (λ j. f (0 + j)) xs) (n + (2 * m - 1))) (sym long)
    (c.plus_of_ones.ensures xs long k (λ j. f (0 + j)) n (ones_listed k c.args.cells d e blank.0 blank.1 f n 0 xs c.requires.within h)))

pub returns-else-digits-cells : goal.returns-else-digits-cells
returns-else-digits-cells g c = λ k f n h.
    stands_with_more k _ _ _ (n + (2 * length (runs_of c.args.run c.args.firsts.now) - 1)) (n + 2 * length (runs_of c.args.run c.args.firsts.now)) (omega arith)
    (c.plus_at.ensures k f n (full_listed c.args.cells c.args.digits.now c.args.exponents.now c.requires.whole c.if-digits-cells.false k f n 0 (runs_of c.args.run c.args.firsts.now) h))
