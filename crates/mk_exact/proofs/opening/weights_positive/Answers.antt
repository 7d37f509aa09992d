use Rattle.mk_exact.proofs.opening.weights_positive.Goals as goal
use Rattle.mk_exact.proofs.Positive.{weights_positive}

pub returns : goal.returns
returns c = weights_positive
