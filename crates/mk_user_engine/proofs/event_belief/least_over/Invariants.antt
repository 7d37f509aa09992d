use Rattle.std.proofs.Common.{◌++◌, take}
use Rattle.mk_user_engine.specs.GroupBelief.{HasLeastOver}
use Rattle.mk_user_engine.proofs.event_belief.least_over.Given as goal

abbrev pub invariant-loop-place : goal.invariant-loop-place
invariant-loop-place l = HasLeastOver l.trades (l.known ++ l.event) (take l.place l.groups)
    l.product
