use Rattle.mk_exact.proofs.opening.single_opens.Goals as goal
use Rattle.mk_exact.proofs.Single.{single_opens_lem}

pub returns : goal.returns
returns c = single_opens_lem
