use Rattle.mk_beliefs.proofs.Initials.{rows_are_few}
use Rattle.mk_beliefs.proofs.rows.rows_are_few.Goals as goal

pub returns : goal.returns
returns c = rows_are_few
