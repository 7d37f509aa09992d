use Rattle.mk_restore.proofs.laws.each_counts.Goals as goal
use Rattle.mk_restore.proofs.Counted.{each_counts}

pub returns : goal.returns
returns c = each_counts
