use Rattle.std.proofs.Common.{ap, ◌∙◌}
use Rattle.mk_walk.specs.Lists.{lists}
use Rattle.mk_walk.proofs.Totals.{state_at, all_total}
use Rattle.mk_walk.proofs.sums.total.Goals as goal

pub counted-requires : goal.counted-requires
counted-requires c = rw c.deref.ensures.value (state_at c.args.network.now c.deref-state-items.result.now (ap lists c.deref-state-items.ensures.value ∙ c.in_ok-states.ensures)
    c.loop-state.state-index c.state-item.result c.loop-state-test.true c.state-item.is)

pub returns : goal.returns
returns c = all_total c.args.network.now c.args.trades.now c.args.known.now c.args.event.now c.deref-state-items.result.now c.loop-state.state-index c.loop-state.sum
    (ap lists c.deref-state-items.ensures.value ∙ c.in_ok-states.ensures) c.loop-state-test.false c.loop-state.invariant
