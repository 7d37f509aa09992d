use Rattle.mk_beliefs.proofs.Initials.{rows_are_small}
use Rattle.mk_beliefs.proofs.rows.rows_are_small.Goals as goal

pub returns : goal.returns
returns c = rows_are_small
