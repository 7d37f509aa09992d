use Rattle.mk_restore.proofs.laws.record_holds_one.Goals as goal
use Rattle.mk_restore.proofs.Records.{record_holds_one}

pub returns : goal.returns
returns c = record_holds_one
