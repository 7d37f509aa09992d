use Rattle.mk_sums.proofs.Items as parts
use Rattle.mk_sums.proofs.joints.known_are_factors.Goals as goal

pub returns : goal.returns
returns c = parts.known_are_factors
