use Rattle.mk_spread.proofs.Telling.{position_exists}
use Rattle.mk_spread.proofs.told.position_exists.Goals as goal

pub returns : goal.returns
returns c = position_exists
