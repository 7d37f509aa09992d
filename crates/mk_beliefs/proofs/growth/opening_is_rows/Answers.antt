use Rattle.mk_beliefs.proofs.Grown.{opening_is_rows}
use Rattle.mk_beliefs.proofs.growth.opening_is_rows.Goals as goal

pub returns : goal.returns
returns c = opening_is_rows
