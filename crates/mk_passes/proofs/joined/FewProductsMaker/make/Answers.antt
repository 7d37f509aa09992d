use Rattle.std.proofs.Common.{◌+◌, ◌*◌, ℕ, List, length, slice_index, arith, subst}
use Rattle.std.proofs.lemmas.List.{take_all}
use Rattle.mk_passes.specs.Parts.{MakesPlusOfPairs}
use Rattle.mk_scope.specs.Runs.{cells_at}
use Rattle.mk_passes.proofs.Blocked.{cells_of_room}
use Rattle.mk_passes.proofs.Filled.{all_full, at_most, full_room}
use Rattle.mk_passes.proofs.Paired.{made_of_full}
use Rattle.mk_passes.proofs.joined.FewProductsMaker.make.Goals as goal

pub products_of_cells-requires-clause-full : goal.products_of_cells-requires-clause-full
products_of_cells-requires-clause-full g c =
    let s = c.args.self.0 in let few = (at_most (length s.onto.now) s.left.digits.now s.left.exponents.now c.requires.can.whole).0 in omega (arith, few, c.requires.ready)

pub products_of_cells-requires-clause-cells : goal.products_of_cells-requires-clause-cells
products_of_cells-requires-clause-cells g c =
    let s = c.args.self.0 in
    cells_of_room c.requires.can.room.0 _ _ _ (full_room (length s.onto.now) s.left.digits.now s.left.exponents.now c.requires.can.whole c.requires.ready.2 c.requires.can.room.0 _ c.requires.can.room.1)

pub products_of_cells-requires-clause-other_cells : goal.products_of_cells-requires-clause-other_cells
products_of_cells-requires-clause-other_cells g c = cells_of_room c.requires.can.other_room.0 _ _ _ c.requires.can.other_room.1

pub returns : goal.returns
returns g c =
    let s = c.args.self.0 in let R = g.R.Semiring in let cell = c.products_of_cells.result in let count = length s.onto.now in let base = slice_index s.lists.bases.now c.args.cell in
    let d = s.left.digits.now in let e = s.left.exponents.now in let xs = s.lists.offsets.now in let md = s.right.digits.now in let me = s.right.exponents.now in
    made_of_full R.plus_of count d e md me (slice_index s.onto.now) (cells_at base xs) (2 * length xs + 1) cell.digits cell.exponent c.requires.ready.2 (all_full count d e c.requires.can.whole c.requires.ready.2)
    (subst (λ (ys : List ℕ). MakesPlusOfPairs R.plus_of d e md me (slice_index s.onto.now) (cells_at base ys) (2 * length ys + 1) cell.digits cell.exponent)
    (take_all g.row.N xs (omega (arith, c.requires.ready))) c.products_of_cells.ensures)
