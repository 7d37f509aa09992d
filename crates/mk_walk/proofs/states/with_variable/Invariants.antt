use Rattle.std.proofs.Common.{◌≡◌, ◌∷◌, map, flat_map}
use Rattle.mk_states.specs.States.{numbers_below}
use Rattle.mk_walk.specs.Lists.{lists}
use Rattle.mk_walk.proofs.states.with_variable.Given as goal

abbrev pub invariant-loop-value : goal.invariant-loop-value
invariant-loop-value l = lists l.all.items ≡ flat_map (λ v. map (λ s. v ∷ s) (lists l.states)) (numbers_below l.value)
