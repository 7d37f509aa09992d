use Rattle.std.proofs.Common.{◌≡◌, map, take, slice_index}
use Rattle.mk_net.specs.Network.{sizes}
use Rattle.mk_scope.proofs.scope.sizes_of.Given as goal

abbrev pub invariant-loop-variable : goal.invariant-loop-variable
invariant-loop-variable l = l.sizes.items ≡ map (slice_index (sizes l.net)) (take l.variable-index l.variables)
