use Rattle.std.proofs.Common.{◌≡◌, ◌++◌, map, take}
use Rattle.mk_plan.proofs.shape.append.Given as goal

abbrev pub invariant-loop-scope : goal.invariant-loop-scope
invariant-loop-scope l =
    map (λ scope. scope.value) l.scopes.items ≡ map (λ scope. scope.value) l.initial.scopes.items ++
    map (λ scope. scope.value) (take l.scope-index l.more)
