use Rattle.mk_restore.proofs.laws.opening_is_safe.Goals as goal
use Rattle.mk_restore.proofs.Safe.{opening_is_safe}

pub returns : goal.returns
returns c = opening_is_safe
