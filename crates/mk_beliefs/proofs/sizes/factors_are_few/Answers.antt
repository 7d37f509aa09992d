use Rattle.mk_beliefs.proofs.Grown.{factors_are_few}
use Rattle.mk_beliefs.proofs.sizes.factors_are_few.Goals as goal

pub returns : goal.returns
returns c = factors_are_few
