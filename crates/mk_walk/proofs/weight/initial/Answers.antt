use Rattle.mk_walk.proofs.Weights.{more_initial}
use Rattle.mk_walk.proofs.weight.initial.Goals as goal

pub loop-variable-preserved : goal.loop-variable-preserved
loop-variable-preserved c = more_initial c.args.network.now c.args.state.now c.loop-variable.variable c.loop-variable.weight c.share.result c.saturating_mul-weight.result
    c.loop-variable.invariant c.share.ensures c.saturating_mul-weight.ensures
