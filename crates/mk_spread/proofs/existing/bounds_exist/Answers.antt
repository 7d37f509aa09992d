use Rattle.mk_spread.proofs.Exist.{bounds_exist}
use Rattle.mk_spread.proofs.existing.bounds_exist.Goals as goal

pub returns : goal.returns
returns c = bounds_exist
