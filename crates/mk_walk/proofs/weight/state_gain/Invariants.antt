use Rattle.std.proofs.Common.{◌≡◌, take}
use Rattle.mk_walk.specs.Walked.{capped, walked_gain}
use Rattle.mk_walk.proofs.weight.state_gain.Given as goal

abbrev pub invariant-loop-trade : goal.invariant-loop-trade
invariant-loop-trade l = l.gain ≡ capped (walked_gain (take l.trade-index l.trades) l.user l.state)
