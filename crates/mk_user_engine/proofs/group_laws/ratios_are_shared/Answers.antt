use Rattle.mk_user_engine.proofs.Sharing.{shared}
use Rattle.mk_user_engine.proofs.group_laws.ratios_are_shared.Goals as goal

pub returns : goal.returns
returns c = shared
