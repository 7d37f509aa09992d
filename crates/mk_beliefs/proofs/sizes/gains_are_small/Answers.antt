use Rattle.mk_beliefs.proofs.Gained.{gains_are_small}
use Rattle.mk_beliefs.proofs.sizes.gains_are_small.Goals as goal

pub returns : goal.returns
returns c = λ network tree H u net proper. gains_are_small network tree H u net proper
