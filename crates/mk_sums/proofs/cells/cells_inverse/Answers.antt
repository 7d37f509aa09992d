use Rattle.mk_sums.proofs.Tables.{cell_of_place, cell_below, place_cell_of}
use Rattle.mk_sums.proofs.cells.cells_inverse.Goals as goal

pub returns : goal.returns
returns c = λ size xs. (cell_of_place size xs, λ a h. (cell_below size xs a h, place_cell_of size xs a h))
