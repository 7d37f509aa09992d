use Rattle.std.proofs.Common.{◌≡◌, None, take, option_map}
use Rattle.mk_states.specs.States.{plus_over}
use Rattle.mk_exact.specs.Factors.{lesser}
use Rattle.mk_walk.specs.Lists.{lists}
use Rattle.mk_walk.specs.Walked.{capped, counted_gain}
use Rattle.mk_walk.proofs.least.least_gain.Given as goal

abbrev pub invariant-loop-state : goal.invariant-loop-state
invariant-loop-state l = l.least ≡ option_map capped (plus_over lesser None (counted_gain l.trades l.user l.known l.event) (lists (take l.state-index l.state-items)))
