use Rattle.mk_walk.proofs.Weights.{more_gain, same_gain}
use Rattle.mk_walk.proofs.weight.state_gain.Goals as goal
use Rattle.mk_walk.proofs.weight.state_gain.Goals.{then-trade-user, else-trade-user}

pub loop-trade-preserved : goal.loop-trade-preserved
loop-trade-preserved c = elim c.if-trade-user.branch [
  | then-trade-user w ↦ rw w.gain-is (more_gain c.args.state.now c.args.user c.args.trades.now c.loop-trade.trade-index c.trade-item.result c.loop-trade.gain w.units_in.result w.saturating_mul-gain.result
      c.loop-trade-test.true c.trade-item.is w.if-trade-user.true c.loop-trade.invariant w.units_in.ensures w.saturating_mul-gain.ensures)
  | else-trade-user w ↦ rw w.gain-is (same_gain c.args.state.now c.args.user c.args.trades.now c.loop-trade.trade-index c.trade-item.result c.loop-trade.gain
      c.loop-trade-test.true c.trade-item.is w.if-trade-user.false c.loop-trade.invariant)
]
