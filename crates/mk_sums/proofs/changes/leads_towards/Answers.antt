use Rattle.mk_sums.proofs.Stale as changes
use Rattle.mk_sums.proofs.changes.leads_towards.Goals as goal

pub returns : goal.returns
returns c = changes.leads_towards
