use Rattle.std.proofs.Common.{arith, ◌∙◌, ap}
use Rattle.std.proofs.lemmas.Grind.{common_steps}
use Rattle.mk_net.specs.Network.{sizes}
use Rattle.mk_walk.specs.Lists.{lists}
use Rattle.mk_walk.proofs.Listed.{first_and_others, each_is_state}
use Rattle.mk_walk.proofs.states.all_states.Goals as goal

pub loop-values-init : goal.loop-values-init
loop-values-init c = record {
  kept = ap lists c.new-states.ensures.items;
  left = each_is_state c.args.network.now c.into_iter-values-iterator.result.rest.items (ap lists c.into_iter-values-iterator.ensures.into_iter_gives.0 ∙ c.in_ok-values-items.ensures);
}

pub can_come-requires : goal.can_come-requires
can_come-requires c = rw c.deref.ensures.value
    ((first_and_others (sizes c.args.network.now) c.loop-values.values-iterator.rest.items c.next.new.self.rest.items c.in-Some.values c.loop-values.invariant.left c.in-Some.ensures.steps.0).0)

pub loop-values-preserved : goal.loop-values-preserved
loop-values-preserved c = record {
  kept = grind (arith, common_steps);
  left = (first_and_others (sizes c.args.network.now) c.loop-values.values-iterator.rest.items c.next.new.self.rest.items c.in-Some.values c.loop-values.invariant.left c.in-Some.ensures.steps.0).1;
}
