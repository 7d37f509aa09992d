use Rattle.mk_restore.proofs.laws.fit_is_safe.Goals as goal
use Rattle.mk_restore.proofs.Safe.{fit_is_safe}

pub returns : goal.returns
returns c = fit_is_safe
