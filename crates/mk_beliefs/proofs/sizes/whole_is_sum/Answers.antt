use Rattle.mk_beliefs.proofs.Weighed.{whole_is_sum}
use Rattle.mk_beliefs.proofs.sizes.whole_is_sum.Goals as goal

pub returns : goal.returns
returns c = whole_is_sum
