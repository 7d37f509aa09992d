use Rattle.mk_exact.proofs.existing.sides_exist.Goals as goal
use Rattle.mk_exact.proofs.ExistMarkets.{sides_exist}

pub returns : goal.returns
returns c = sides_exist
