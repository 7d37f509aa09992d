use Rattle.mk_spread.proofs.Agree.{bounds_agree}
use Rattle.mk_spread.proofs.existing.bounds_agree.Goals as goal

pub returns : goal.returns
returns c = bounds_agree
