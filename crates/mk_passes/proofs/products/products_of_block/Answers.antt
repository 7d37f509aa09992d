use Rattle.std.proofs.Common.{◌+◌, ◌*◌, length, slice_index, arith}
use Rattle.mk_scope.specs.Runs.{cells_at}
use Rattle.mk_passes.proofs.Blocked.{cells_of_room}
use Rattle.mk_passes.proofs.Filled.{at_most, all_blank, all_full, full_room}
use Rattle.mk_passes.proofs.Paired.{others_made, made_of_full}
use Rattle.mk_passes.proofs.products.products_of_block.Goals as goal

pub plus_of_others-requires-clause-other_cells : goal.plus_of_others-requires-clause-other_cells
plus_of_others-requires-clause-other_cells g c = cells_of_room c.requires.other_room.0 _ _ _ c.requires.other_room.1

pub products_of_cells-requires-clause-full : goal.products_of_cells-requires-clause-full
products_of_cells-requires-clause-full g c =
    let few = (at_most (length c.args.onto.now) c.args.left.digits.now c.args.left.exponents.now c.requires.whole).0 in omega (arith, few, c.if-left-onto.false)

pub products_of_cells-requires-clause-cells : goal.products_of_cells-requires-clause-cells
products_of_cells-requires-clause-cells g c =
    cells_of_room c.requires.room.0 _ _ _ (full_room (length c.args.onto.now) c.args.left.digits.now c.args.left.exponents.now c.requires.whole c.if-left-onto.false c.requires.room.0 _ c.requires.room.1)

pub products_of_cells-requires-clause-other_cells : goal.products_of_cells-requires-clause-other_cells
products_of_cells-requires-clause-other_cells g c = cells_of_room c.requires.other_room.0 _ _ _ c.requires.other_room.1

pub returns-then-left-onto : goal.returns-then-left-onto
returns-then-left-onto g c =
    let d = c.args.left.digits.now in let e = c.args.left.exponents.now in let count = length c.args.onto.now in
    let blank = all_blank count d e c.requires.whole c.if-left-onto.true in
    others_made g.R.Semiring.plus_of count d e c.args.right.digits.now c.args.right.exponents.now (slice_index c.args.onto.now) c.args.base c.args.chosen.now blank.0 blank.1 c.requires.within
    c.plus_of_others.result.digits c.plus_of_others.result.exponent c.plus_of_others.ensures

pub returns-else-left-onto : goal.returns-else-left-onto
returns-else-left-onto g c =
    let xs = c.args.chosen.now in let d = c.args.left.digits.now in let e = c.args.left.exponents.now in let count = length c.args.onto.now in
    made_of_full g.R.Semiring.plus_of count d e c.args.right.digits.now c.args.right.exponents.now (slice_index c.args.onto.now) (cells_at c.args.base xs) (2 * length xs + 1)
    c.products_of_cells.result.digits c.products_of_cells.result.exponent c.if-left-onto.false (all_full count d e c.requires.whole c.if-left-onto.false) c.products_of_cells.ensures
