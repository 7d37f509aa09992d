use Rattle.mk_spread.proofs.Exist.{right_bounds_fit}
use Rattle.mk_spread.proofs.existing.right_bounds_fit.Goals as goal

pub returns : goal.returns
returns c = right_bounds_fit
