use Rattle.mk_beliefs.proofs.Gained.{all_is_least}
use Rattle.mk_beliefs.proofs.minima.all_is_least.Goals as goal

pub returns : goal.returns
returns c = all_is_least
