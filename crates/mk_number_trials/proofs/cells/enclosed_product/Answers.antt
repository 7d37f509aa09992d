use Rattle.std.proofs.Common.{◌*◌, arith}
use Rattle.mk_cell.specs.inner.Laws.{has_room, stands_with_more}
use Rattle.mk_number_trials.proofs.cells.enclosed_product.Goals as goal

pub times-requires-clause-cell : goal.times-requires-clause-cell
times-requires-clause-cell c = has_room 0 _ _ c.args.a 0 (omega arith) (omega arith) c.of_whole-left.ensures

pub times-requires-clause-other_cell : goal.times-requires-clause-other_cell
times-requires-clause-other_cell c = has_room 0 _ _ c.args.b 0 (omega arith) (omega arith) c.of_whole-right.ensures

pub enclosure-requires-clause-stands : goal.enclosure-requires-clause-stands
enclosure-requires-clause-stands c =
    (c.args.a * c.args.b, stands_with_more 0 _ _ (c.args.a * c.args.b) 1 3 (omega arith) (c.times.ensures.stands 0 0 c.args.a c.args.b 0 0 c.of_whole-left.ensures c.of_whole-right.ensures))
