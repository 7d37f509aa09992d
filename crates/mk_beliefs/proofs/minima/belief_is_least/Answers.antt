use Rattle.mk_beliefs.proofs.Gained.{belief_is_least}
use Rattle.mk_beliefs.proofs.minima.belief_is_least.Goals as goal

pub returns : goal.returns
returns c = λ network tree H u event net proper. belief_is_least network tree H u net proper event
