use Rattle.mk_restore.proofs.laws.restored_is_safe.Goals as goal
use Rattle.mk_restore.proofs.Safe.{restored_is_safe}

pub returns : goal.returns
returns c = restored_is_safe
