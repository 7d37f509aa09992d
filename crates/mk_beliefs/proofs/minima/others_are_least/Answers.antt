use Rattle.mk_beliefs.proofs.Gained.{others_are_least}
use Rattle.mk_beliefs.proofs.minima.others_are_least.Goals as goal

pub returns : goal.returns
returns c = λ network tree H u asked net proper. others_are_least network tree H u net proper asked
