use Rattle.mk_restore.proofs.laws.restores_one.Goals as goal
use Rattle.mk_restore.proofs.Joined.{restores_one}

pub returns : goal.returns
returns c = restores_one
