use Rattle.mk_beliefs.proofs.Grown.{weights_grow}
use Rattle.mk_beliefs.proofs.growth.weights_grow.Goals as goal

pub returns : goal.returns
returns c = weights_grow
