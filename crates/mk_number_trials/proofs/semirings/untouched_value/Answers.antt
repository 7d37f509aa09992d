use Rattle.std.proofs.Common.{arith}
use Rattle.mk_cell.specs.inner.Laws.{untouched_stands, stands_with_more}
use Rattle.mk_number_trials.proofs.semirings.untouched_value.Goals as goal

pub of_cell-requires-clause-stands : goal.of_cell-requires-clause-stands
of_cell-requires-clause-stands g c =
    (_, stands_with_more 40 _ _ _ 1 3 (omega arith) (untouched_stands 0 40 _ _ c.args.n 0 (omega arith) c.of_whole.ensures))

pub of_cell-requires-clause-own : goal.of_cell-requires-clause-own
of_cell-requires-clause-own g c = λ t.
    (c.args.n, stands_with_more 0 _ _ c.args.n 0 3 (omega arith) c.of_whole.ensures)
