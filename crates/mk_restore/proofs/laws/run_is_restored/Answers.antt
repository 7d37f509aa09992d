use Rattle.mk_restore.proofs.laws.run_is_restored.Goals as goal
use Rattle.mk_restore.proofs.Taken.{run_is_restored}

pub returns : goal.returns
returns c = run_is_restored
