use Rattle.std.proofs.Common.{arith}
use Rattle.mk_cell.specs.inner.Laws.{untouched_stands, stands_with_more}
use Rattle.mk_number_trials.proofs.cells.enclosed_own.Goals as goal

pub own_enclosure-requires-clause-shifted : goal.own_enclosure-requires-clause-shifted
own_enclosure-requires-clause-shifted c =
    (_, stands_with_more 40 _ _ _ 1 3 (omega arith) (untouched_stands 0 40 _ _ c.args.n 0 (omega arith) c.of_whole.ensures))

pub own_enclosure-requires-clause-stands : goal.own_enclosure-requires-clause-stands
own_enclosure-requires-clause-stands c =
    (c.args.n, stands_with_more 0 _ _ c.args.n 0 3 (omega arith) c.of_whole.ensures)
