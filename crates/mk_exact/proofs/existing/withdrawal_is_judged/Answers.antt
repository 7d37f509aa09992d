use Rattle.mk_exact.proofs.existing.withdrawal_is_judged.Goals as goal
use Rattle.mk_exact.proofs.ExistNumbers.{withdrawal_is_judged}

pub returns : goal.returns
returns c = withdrawal_is_judged
