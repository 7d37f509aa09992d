use Rattle.mk_exact.proofs.existing.bounds_kept.Goals as goal
use Rattle.mk_exact.proofs.ExistBounds.{bounds_kept}

pub returns : goal.returns
returns c = bounds_kept
