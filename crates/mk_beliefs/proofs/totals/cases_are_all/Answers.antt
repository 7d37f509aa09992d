use Rattle.mk_beliefs.proofs.Weighed.{cases_are_all}
use Rattle.mk_beliefs.proofs.totals.cases_are_all.Goals as goal

pub returns : goal.returns
returns c = cases_are_all
