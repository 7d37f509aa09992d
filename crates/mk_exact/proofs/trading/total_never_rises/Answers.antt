use Rattle.mk_exact.proofs.trading.total_never_rises.Goals as goal
use Rattle.mk_exact.proofs.Fair.{never_rises}

pub returns : goal.returns
returns c = never_rises
