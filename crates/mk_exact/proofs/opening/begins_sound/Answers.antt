use Rattle.mk_exact.proofs.opening.begins_sound.Goals as goal
use Rattle.mk_exact.proofs.Single.{empty_sound}

pub returns : goal.returns
returns c = empty_sound
