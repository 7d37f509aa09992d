use Rattle.mk_walk.proofs.Weights.{more_weight}
use Rattle.mk_walk.proofs.weight.state_weight.Goals as goal

pub loop-trade-preserved : goal.loop-trade-preserved
loop-trade-preserved c = more_weight c.args.network.now c.args.state.now c.args.trades.now c.loop-trade.trade-index c.trade-item.result c.loop-trade.weight c.units_in.result c.saturating_mul-weight.result
    c.loop-trade-test.true c.trade-item.is c.loop-trade.invariant c.units_in.ensures c.saturating_mul-weight.ensures
