use Rattle.mk_exact.proofs.opening.initial_total_is_millions.Goals as goal
use Rattle.mk_exact.proofs.Millions.{initial_total_is}

pub returns : goal.returns
returns c = initial_total_is
