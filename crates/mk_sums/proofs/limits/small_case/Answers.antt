use Rattle.mk_sums.proofs.Small as small
use Rattle.mk_sums.proofs.limits.small_case.Goals as goal

pub returns : goal.returns
returns c = small.small_case
