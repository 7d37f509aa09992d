use Rattle.mk_exact.proofs.existing.outcome_exists.Goals as goal
use Rattle.mk_exact.proofs.ExistOutcome.{outcome_exists}

pub returns : goal.returns
returns c = outcome_exists
