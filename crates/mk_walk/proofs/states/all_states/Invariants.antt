use Rattle.std.proofs.Common.{◌≡◌, filter}
use Rattle.std.specs.List.{AllByRecursion}
use Rattle.mk_net.specs.Network.{sizes}
use Rattle.mk_states.specs.States.{IsState}
use Rattle.mk_states.specs.InitialWeight.{can_come}
use Rattle.mk_walk.specs.Lists.{lists}
use Rattle.mk_walk.proofs.states.all_states.Given as goal

abbrev pub invariant-loop-values : goal.invariant-loop-values
invariant-loop-values l = record {
  kept : lists l.states.items ≡ filter (can_come l.network) (lists l.yielded);
  left : AllByRecursion (IsState (sizes l.network)) (lists l.values-iterator.rest.items);
}
