use Rattle.mk_sums.proofs.Stale as changes
use Rattle.mk_sums.proofs.changes.change_leaves.Goals as goal

pub returns : goal.returns
returns c = changes.change_leaves
