use Rattle.std.proofs.Common.{◌≡◌, map, []}
use Rattle.mk_plan.specs.inner.Shaped.{shape_of, core_places_of}
use Rattle.mk_plan.proofs.shape.core_places.Given as goal

abbrev pub invariant-loop-passed : goal.invariant-loop-passed
invariant-loop-passed l = l.places.items ≡ core_places_of (shape_of l.tree (map (λ scope. scope.value) l.cliques) (map (λ scope. scope.value) l.cores) []) l.passed
