use Rattle.mk_restore.proofs.laws.fit_quotes_nobody.Goals as goal
use Rattle.mk_restore.proofs.Unquoted.{fit_quotes_nobody}

pub returns : goal.returns
returns c = fit_quotes_nobody
