use Rattle.mk_exact.proofs.existing.cash_exists.Goals as goal
use Rattle.mk_exact.proofs.ExistNumbers.{cash_exists}

pub returns : goal.returns
returns c = cash_exists
