use Rattle.mk_beliefs.proofs.Nothing.{others_are_absent}
use Rattle.mk_beliefs.proofs.absent.others_are_absent.Goals as goal

pub returns : goal.returns
returns c = λ network tree H asked net proper fits. others_are_absent network tree H net proper asked fits
