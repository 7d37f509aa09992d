use Rattle.mk_sums.proofs.States as nested
use Rattle.mk_sums.proofs.joints.states_nest.Goals as goal

pub returns : goal.returns
returns c = nested.states_nest
