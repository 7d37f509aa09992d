use Rattle.mk_exact.proofs.existing.cash_is_bounded.Goals as goal
use Rattle.mk_exact.proofs.ExistNumbers.{cash_is_bounded}

pub returns : goal.returns
returns c = cash_is_bounded
