use Rattle.std.proofs.Common.{◌≡◌, true, take}
use Rattle.std.specs.List.{list_all}
use Rattle.mk_states.specs.Events.{has}
use Rattle.mk_walk.proofs.weight.holds.Given as goal

abbrev pub invariant-loop-pair : goal.invariant-loop-pair
invariant-loop-pair l = list_all (λ p. has p l.state) (take l.pair-index l.pairs) ≡ true
