use Rattle.mk_spread.proofs.Telling.{prices_fit}
use Rattle.mk_spread.proofs.told.prices_fit.Goals as goal

pub returns : goal.returns
returns c = prices_fit
