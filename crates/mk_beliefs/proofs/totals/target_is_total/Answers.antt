use Rattle.mk_beliefs.proofs.Weighed.{target_is_total}
use Rattle.mk_beliefs.proofs.totals.target_is_total.Goals as goal

pub returns : goal.returns
returns c = target_is_total
