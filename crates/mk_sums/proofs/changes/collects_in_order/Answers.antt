use Rattle.mk_sums.proofs.Stale as changes
use Rattle.mk_sums.proofs.changes.collects_in_order.Goals as goal

pub returns : goal.returns
returns c = changes.collects_in_order
