use Rattle.std.proofs.Common.{◌≡◌, take, sum_by}
use Rattle.mk_walk.specs.Lists.{lists}
use Rattle.mk_walk.specs.Walked.{capped, counted_weight}
use Rattle.mk_walk.proofs.sums.total.Given as goal

abbrev pub invariant-loop-state : goal.invariant-loop-state
invariant-loop-state l = l.sum ≡ capped (sum_by (counted_weight l.network l.trades l.known l.event) (lists (take l.state-index l.state-items)))
