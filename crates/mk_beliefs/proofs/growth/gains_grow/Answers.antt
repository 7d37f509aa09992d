use Rattle.mk_beliefs.proofs.Grown.{gains_grow}
use Rattle.mk_beliefs.proofs.growth.gains_grow.Goals as goal

pub returns : goal.returns
returns c = gains_grow
