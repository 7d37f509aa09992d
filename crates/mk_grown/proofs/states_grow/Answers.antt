use Rattle.mk_grown.proofs.states_grow.Goals as goal
use Rattle.mk_grown.proofs.States.{all_more}

pub returns : goal.returns
returns c = all_more
