use Rattle.mk_exact.proofs.existing.price_is_covered.Goals as goal
use Rattle.mk_exact.proofs.ExistNumbers.{price_is_covered}

pub returns : goal.returns
returns c = price_is_covered
