use Rattle.std.proofs.Common.{◌≡◌, ◌*◌, drop, slice_index}
use Rattle.mk_net.specs.Network.{sizes}
use Rattle.mk_sums.specs.Cells.{cells}
use Rattle.mk_scope.proofs.scope.cells_of.Given as goal

abbrev pub invariant-loop-variable : goal.invariant-loop-variable
invariant-loop-variable l = l.cells * cells (slice_index (sizes l.net)) (drop l.variable-index l.variables) ≡ cells (slice_index (sizes l.net)) l.variables
