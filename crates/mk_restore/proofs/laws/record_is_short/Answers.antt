use Rattle.mk_restore.proofs.laws.record_is_short.Goals as goal
use Rattle.mk_restore.proofs.Records.{record_is_short}

pub returns : goal.returns
returns c = record_is_short
