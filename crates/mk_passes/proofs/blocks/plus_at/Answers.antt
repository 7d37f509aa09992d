use Rattle.std.proofs.Common.{◌+◌, ◌-◌, ◌*◌, length, arith}
use Rattle.mk_cell.specs.inner.Laws.{stands_with_more}
use Rattle.mk_scope.specs.Runs.{runs_of}
use Rattle.mk_passes.proofs.Blocked.{cells_of_room}
use Rattle.mk_scope.proofs.Runs.{length-runs}
use Rattle.mk_passes.proofs.Summed.{few_cells, steps_of_list}
use Rattle.mk_passes.proofs.blocks.plus_at.Goals as goal

pub plus_of_cells-requires-clause-cells : goal.plus_of_cells-requires-clause-cells
plus_of_cells-requires-clause-cells g c = cells_of_room c.requires.room.0 _ _ _ c.requires.room.1

pub returns-then-offsets-eq1 : goal.returns-then-offsets-eq1
returns-then-offsets-eq1 g c =
    few_cells g.R.Semiring.plus_of c.args.run 1 c.args.base c.args.offsets.now c.args.digits.now c.args.exponents.now c.plus_of_cells.result.digits c.plus_of_cells.result.exponent
    c.if-run-eq1.true c.if-offsets-eq1.true (omega arith) c.plus_of_cells.ensures

pub plus_of_cells-requires-then-offsets-eq2-clause-cells : goal.plus_of_cells-requires-then-offsets-eq2-clause-cells
plus_of_cells-requires-then-offsets-eq2-clause-cells g c = cells_of_room c.requires.room.0 _ _ _ c.requires.room.1

pub returns-then-offsets-eq2 : goal.returns-then-offsets-eq2
returns-then-offsets-eq2 g c =
    few_cells g.R.Semiring.plus_of c.args.run 2 c.args.base c.args.offsets.now c.args.digits.now c.args.exponents.now c.plus_of_cells-then-offsets-eq2.result.digits c.plus_of_cells-then-offsets-eq2.result.exponent
    c.if-run-eq1-2.true c.if-offsets-eq2.true (omega arith) c.plus_of_cells-then-offsets-eq2.ensures

pub returns-then-offsets-le-FEW : goal.returns-then-offsets-le-FEW
returns-then-offsets-le-FEW g c = λ k f n a.
    let xs = c.args.offsets.now in let run = c.args.run in
    let e = length-runs run xs in let s = steps_of_list run (length xs) c.requires.some in
    stands_with_more k _ _ _ (n + length xs * (2 * run - 1)) (n + (2 * length (runs_of run xs) - 1)) (omega (arith, e, s)) (c.plus_of_block.ensures k f n a)

pub returns-then-offsets-le-BLOCK : goal.returns-then-offsets-le-BLOCK
returns-then-offsets-le-BLOCK g c = λ k f n a.
    let xs = c.args.offsets.now in let run = c.args.run in
    let e = length-runs run xs in let s = steps_of_list run (length xs) c.requires.some in
    stands_with_more k _ _ _ (n + length xs * (2 * run - 1)) (n + (2 * length (runs_of run xs) - 1)) (omega (arith, e, s)) (c.plus_of_block-then-offsets-le-BLOCK.ensures k f n a)
