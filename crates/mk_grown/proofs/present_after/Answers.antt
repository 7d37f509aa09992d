use Rattle.mk_grown.proofs.present_after.Goals as goal
use Rattle.mk_grown.proofs.Present.{present_after}

pub returns : goal.returns
returns c = present_after
