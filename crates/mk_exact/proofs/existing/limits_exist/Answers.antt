use Rattle.mk_exact.proofs.existing.limits_exist.Goals as goal
use Rattle.mk_exact.proofs.ExistLimits.{limits_exist}

pub returns : goal.returns
returns c = limits_exist
