use Rattle.mk_beliefs.proofs.Initials.{rows_grow}
use Rattle.mk_beliefs.proofs.rows.rows_grow.Goals as goal

pub returns : goal.returns
returns c = rows_grow
