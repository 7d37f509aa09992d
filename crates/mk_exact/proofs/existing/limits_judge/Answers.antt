use Rattle.mk_exact.proofs.existing.limits_judge.Goals as goal
use Rattle.mk_exact.proofs.ExistLimits.{limits_judge}

pub returns : goal.returns
returns c = limits_judge
