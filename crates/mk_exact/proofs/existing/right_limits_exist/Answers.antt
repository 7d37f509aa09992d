use Rattle.mk_exact.proofs.existing.right_limits_exist.Goals as goal
use Rattle.mk_exact.proofs.ExistMarkets.{right_limits_exist}

pub returns : goal.returns
returns c = right_limits_exist
