use Rattle.mk_exact.proofs.existing.least_exists.Goals as goal
use Rattle.mk_exact.proofs.ExistMarkets.{least_gain_exists}

pub returns : goal.returns
returns c = least_gain_exists
