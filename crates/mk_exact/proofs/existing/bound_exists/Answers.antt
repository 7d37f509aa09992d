use Rattle.mk_exact.proofs.existing.bound_exists.Goals as goal
use Rattle.mk_exact.proofs.Risk.{bound_exists}

pub returns : goal.returns
returns c = bound_exists
