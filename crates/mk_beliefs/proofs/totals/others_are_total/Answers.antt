use Rattle.mk_beliefs.proofs.Weighed.{others_are_total}
use Rattle.mk_beliefs.proofs.totals.others_are_total.Goals as goal

pub returns : goal.returns
returns c = others_are_total
