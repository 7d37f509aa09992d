use Rattle.mk_spread.proofs.Telling.{position_fits}
use Rattle.mk_spread.proofs.told.position_fits.Goals as goal

pub returns : goal.returns
returns c = position_fits
