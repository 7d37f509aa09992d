use Rattle.mk_beliefs.proofs.Weighed.{belief_is_total}
use Rattle.mk_beliefs.proofs.totals.belief_is_total.Goals as goal

pub returns : goal.returns
returns c = belief_is_total
