use Rattle.mk_spread.proofs.Telling.{prices_make_one}
use Rattle.mk_spread.proofs.told.prices_make_one.Goals as goal

pub returns : goal.returns
returns c = prices_make_one
