use Rattle.mk_beliefs.proofs.Grown.{newcomer_has_none}
use Rattle.mk_beliefs.proofs.growth.newcomer_has_none.Goals as goal

pub returns : goal.returns
returns c = newcomer_has_none
