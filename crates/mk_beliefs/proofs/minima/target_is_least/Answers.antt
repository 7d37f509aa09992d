use Rattle.mk_beliefs.proofs.Gained.{target_is_least}
use Rattle.mk_beliefs.proofs.minima.target_is_least.Goals as goal

pub returns : goal.returns
returns c = target_is_least
