use Rattle.mk_exact.proofs.existing.inside_is_decided.Goals as goal
use Rattle.mk_exact.proofs.ExistLimits.{inside_is_decided}

pub returns : goal.returns
returns c = inside_is_decided
