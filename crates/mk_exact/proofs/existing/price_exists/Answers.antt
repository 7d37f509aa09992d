use Rattle.mk_exact.proofs.existing.price_exists.Goals as goal
use Rattle.mk_exact.proofs.ExistMarkets.{price_exists}

pub returns : goal.returns
returns c = price_exists
