use Rattle.std.proofs.Common.{◌≡◌, take}
use Rattle.mk_walk.specs.Walked.{capped, walked_weight}
use Rattle.mk_walk.proofs.weight.state_weight.Given as goal

abbrev pub invariant-loop-trade : goal.invariant-loop-trade
invariant-loop-trade l = l.weight ≡ capped (walked_weight l.network (take l.trade-index l.trades) l.state)
