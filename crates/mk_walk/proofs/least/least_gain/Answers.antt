use Rattle.std.proofs.Common.{ℕ, List, option_map, ap, ◌∙◌}
use Rattle.mk_walk.specs.Lists.{lists}
use Rattle.mk_walk.specs.Walked.{capped, counted_gain}
use Rattle.mk_walk.proofs.Leasts.{more_least, all_least}
use Rattle.mk_walk.proofs.least.least_gain.Goals as goal

pub loop-state-preserved : goal.loop-state-preserved
loop-state-preserved c = more_least (counted_gain c.args.trades.now c.args.user c.args.known.now c.args.event.now) c.deref-state-items.result.now c.loop-state.state-index c.state-item.result c.loop-state.least c.counted_gain.result c.lesser_of-least.result
    c.loop-state-test.true c.state-item.is c.loop-state.invariant
    (c.counted_gain.ensures ∙ ap (λ (s : List ℕ). option_map capped (counted_gain c.args.trades.now c.args.user c.args.known.now c.args.event.now s)) c.deref.ensures.value) c.lesser_of-least.ensures

pub returns : goal.returns
returns c = all_least c.args.network.now c.args.trades.now c.args.user c.args.known.now c.args.event.now c.deref-state-items.result.now c.loop-state.state-index c.loop-state.least
    (ap lists c.deref-state-items.ensures.value ∙ c.in_ok-states.ensures) c.loop-state-test.false c.loop-state.invariant
