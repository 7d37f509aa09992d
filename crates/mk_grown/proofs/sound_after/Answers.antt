use Rattle.mk_grown.proofs.sound_after.Goals as goal
use Rattle.mk_grown.proofs.Present.{sound_after}

pub returns : goal.returns
returns c = sound_after
