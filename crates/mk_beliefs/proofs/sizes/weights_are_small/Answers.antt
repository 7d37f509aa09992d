use Rattle.mk_beliefs.proofs.Weighed.{weights_are_small}
use Rattle.mk_beliefs.proofs.sizes.weights_are_small.Goals as goal

pub returns : goal.returns
returns c = weights_are_small
