use Rattle.mk_session.proofs.Passing.{ends_safe}
use Rattle.mk_session.proofs.laws.ends_safely.Goals as goal

pub returns : goal.returns
returns c = ends_safe
