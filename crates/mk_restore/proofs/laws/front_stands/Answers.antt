use Rattle.mk_restore.proofs.laws.front_stands.Goals as goal
use Rattle.mk_restore.proofs.Taken.{front_stands}

pub returns : goal.returns
returns c = front_stands
