use Rattle.mk_sums.proofs.Tables as tables
use Rattle.mk_sums.proofs.cells.cells_nest.Goals as goal

pub returns : goal.returns
returns c = tables.cells_nest
