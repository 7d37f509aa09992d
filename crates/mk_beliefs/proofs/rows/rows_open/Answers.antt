use Rattle.mk_beliefs.proofs.Initials.{rows_open}
use Rattle.mk_beliefs.proofs.rows.rows_open.Goals as goal

pub returns : goal.returns
returns c = rows_open
