use Rattle.mk_exact.proofs.existing.most_exists.Goals as goal
use Rattle.mk_exact.proofs.ExistNumbers.{most_exists}

pub returns : goal.returns
returns c = most_exists
