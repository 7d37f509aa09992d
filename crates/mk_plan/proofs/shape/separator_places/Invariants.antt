use Rattle.std.proofs.Common.{◌≡◌, [], map}
use Rattle.mk_plan.specs.inner.Shaped.{shape_of, places_of}
use Rattle.mk_plan.proofs.shape.separator_places.Given as goal

abbrev pub invariant-loop-passed : goal.invariant-loop-passed
invariant-loop-passed l = l.places.items ≡ places_of (shape_of l.tree [] (map (λ scope. scope.value) l.cores) (map (λ scope. scope.value) l.separators)) l.in_link l.passed
