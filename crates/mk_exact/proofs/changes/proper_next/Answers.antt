use Rattle.mk_exact.proofs.changes.proper_next.Goals as goal
use Rattle.mk_exact.proofs.Range.{proper_next}

pub returns : goal.returns
returns c = proper_next
