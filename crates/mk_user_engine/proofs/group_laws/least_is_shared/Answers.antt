use Rattle.mk_user_engine.proofs.LeastSharing.{least_shared}
use Rattle.mk_user_engine.proofs.group_laws.least_is_shared.Goals as goal

pub returns : goal.returns
returns c = least_shared
