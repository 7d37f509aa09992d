use Rattle.mk_restore.proofs.laws.restores_join.Goals as goal
use Rattle.mk_restore.proofs.Joined.{restores_join}

pub returns : goal.returns
returns c = restores_join
