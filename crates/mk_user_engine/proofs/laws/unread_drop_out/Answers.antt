use Rattle.mk_user_engine.proofs.Drop.{drops}
use Rattle.mk_user_engine.proofs.laws.unread_drop_out.Goals as goal

pub returns : goal.returns
returns c = drops
