use Rattle.mk_exact.proofs.changes.state_remains.Goals as goal
use Rattle.mk_exact.proofs.Remains.{state_remains}

pub returns : goal.returns
returns c = state_remains
