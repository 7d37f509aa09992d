use Rattle.std.proofs.Common.{◌≡◌, ◌-◌, length, drop}
use Rattle.mk_net.specs.Network.{sizes}
use Rattle.mk_states.specs.States.{states}
use Rattle.mk_walk.specs.Lists.{lists}
use Rattle.mk_walk.proofs.states.all_values.Given as goal

abbrev pub invariant-loop-done : goal.invariant-loop-done
invariant-loop-done l = lists l.states.items ≡ states (drop (length l.network - l.done) (sizes l.network))
