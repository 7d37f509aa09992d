use Rattle.mk_exact.proofs.existing.bound_fits.Goals as goal
use Rattle.mk_exact.proofs.Risk.{bound_fits}

pub returns : goal.returns
returns c = bound_fits
