use Rattle.mk_grown.proofs.present_at_first.Goals as goal
use Rattle.mk_grown.proofs.Present.{present_at_first}

pub returns : goal.returns
returns c = present_at_first
