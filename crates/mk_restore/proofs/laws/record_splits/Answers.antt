use Rattle.mk_restore.proofs.laws.record_splits.Goals as goal
use Rattle.mk_restore.proofs.Records.{record_splits}

pub returns : goal.returns
returns c = record_splits
