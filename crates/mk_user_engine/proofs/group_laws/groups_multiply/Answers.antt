use Rattle.mk_user_engine.proofs.Multiply.{multiply}
use Rattle.mk_user_engine.proofs.group_laws.groups_multiply.Goals as goal

pub returns : goal.returns
returns c = multiply
