use Rattle.mk_restore.proofs.laws.front_is_restored.Goals as goal
use Rattle.mk_restore.proofs.Joined.{front_is_restored}

pub returns : goal.returns
returns c = front_is_restored
