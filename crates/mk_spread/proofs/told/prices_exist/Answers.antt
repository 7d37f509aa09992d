use Rattle.mk_spread.proofs.Telling.{prices_exist}
use Rattle.mk_spread.proofs.told.prices_exist.Goals as goal

pub returns : goal.returns
returns c = prices_exist
