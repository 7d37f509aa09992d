use Rattle.mk_exact.proofs.settling.bound_holds.Goals as goal
use Rattle.mk_exact.proofs.Risk.{bound_holds}

pub returns : goal.returns
returns c = bound_holds
