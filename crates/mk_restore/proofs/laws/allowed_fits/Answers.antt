use Rattle.mk_restore.proofs.laws.allowed_fits.Goals as goal
use Rattle.mk_restore.proofs.Taken.{allowed_fits}

pub returns : goal.returns
returns c = allowed_fits
