use Rattle.mk_exact.proofs.existing.covered_is_less.Goals as goal
use Rattle.mk_exact.proofs.ExistNumbers.{covered_is_less}

pub returns : goal.returns
returns c = covered_is_less
