use Rattle.std.proofs.Common.{◌≡◌, map}
use Rattle.mk_plan.specs.inner.Shaped.{lists_of_neighbours}
use Rattle.mk_plan.proofs.shape.neighbour_lists.Given as goal

abbrev pub invariant-loop-passed : goal.invariant-loop-passed
invariant-loop-passed l = map (λ list. list.items) l.lists.items ≡ lists_of_neighbours l.tree l.passed
