use Rattle.mk_states.proofs.shares_positive.Goals as goal
use Rattle.mk_states.proofs.Shares.{shares_positive}

pub returns : goal.returns
returns c = shares_positive
