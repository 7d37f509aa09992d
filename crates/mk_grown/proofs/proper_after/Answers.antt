use Rattle.mk_grown.proofs.proper_after.Goals as goal
use Rattle.mk_grown.proofs.Present.{proper_after}

pub returns : goal.returns
returns c = proper_after
