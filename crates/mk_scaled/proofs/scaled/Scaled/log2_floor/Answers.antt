use Rattle.mk_scaled.specs.Rules.{whole_log_is}
use Rattle.mk_scaled.proofs.Logs.{log_below, log_above}
use Rattle.mk_scaled.proofs.scaled.Scaled.log2_floor.Goals as goal

pub returns-clause-below : goal.returns-clause-below
returns-clause-below c = rw (← c.self.view_is) (log_below _ _ _ c.ilog2.ensures.power_le)

pub returns-clause-greatest : goal.returns-clause-greatest
returns-clause-greatest c = rw (← c.self.view_is) (log_above _ _ _ c.ilog2.ensures.next_power_gt)

pub returns-clause-log : goal.returns-clause-log
returns-clause-log c = whole_log_is _ _
    (rw (← c.self.view_is) (log_below _ _ _ c.ilog2.ensures.power_le))
    (rw (← c.self.view_is) (log_above _ _ _ c.ilog2.ensures.next_power_gt))
