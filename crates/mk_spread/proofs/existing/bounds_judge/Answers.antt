use Rattle.mk_spread.proofs.Exist.{bounds_judge}
use Rattle.mk_spread.proofs.existing.bounds_judge.Goals as goal

pub returns : goal.returns
returns c = bounds_judge
