use Rattle.std.proofs.Common.{◌≡◌, ◌∷◌, ◌++◌, map, take}
use Rattle.mk_walk.specs.Lists.{lists}
use Rattle.mk_walk.proofs.states.add_value.Given as goal

abbrev pub invariant-loop-state : goal.invariant-loop-state
invariant-loop-state l = lists l.all.items ≡ lists l.initial.all.items ++ map (λ s. l.value ∷ s) (lists (take l.state-index l.states))
