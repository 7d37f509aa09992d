use Rattle.mk_exact.proofs.changes.sound_next.Goals as goal
use Rattle.mk_exact.proofs.Next.{sound_next}

pub returns : goal.returns
returns c = sound_next
