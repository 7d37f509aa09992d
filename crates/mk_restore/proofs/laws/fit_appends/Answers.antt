use Rattle.mk_restore.proofs.laws.fit_appends.Goals as goal
use Rattle.mk_restore.proofs.Counted.{fit_appends}

pub returns : goal.returns
returns c = fit_appends
