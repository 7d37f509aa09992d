use Rattle.mk_exact.proofs.existing.state_exists.Goals as goal
use Rattle.mk_exact.proofs.ExistMarkets.{some_possible}

pub returns : goal.returns
returns c = some_possible
