use Rattle.mk_sums.proofs.Bounds as bounds
use Rattle.mk_sums.proofs.limits.sums_bound.Goals as goal

pub returns : goal.returns
returns c = bounds.sums_bound
