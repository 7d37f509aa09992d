use Rattle.std.proofs.Common.{◌≡◌, map}
use Rattle.mk_plan.specs.inner.Shaped.{scopes_of_cliques}
use Rattle.mk_plan.proofs.shape.clique_scopes.Given as goal

abbrev pub invariant-loop-passed : goal.invariant-loop-passed
invariant-loop-passed l = map (λ scope. scope.value) l.scopes.items ≡ scopes_of_cliques l.net l.tree l.passed
