use Rattle.mk_exact.proofs.existing.fair_pair_fits.Goals as goal
use Rattle.mk_exact.proofs.ExistBounds.{fair_pair_fits}

pub returns : goal.returns
returns c = fair_pair_fits
