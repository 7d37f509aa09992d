use Rattle.mk_grown.proofs.sound_always.Goals as goal
use Rattle.mk_grown.proofs.Present.{sound_always}

pub returns : goal.returns
returns c = sound_always
