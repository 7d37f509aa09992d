use Rattle.mk_audit.proofs.Wrong.{wrong_is_none}
use Rattle.mk_audit.proofs.laws.wrong_is_none.Goals as goal

pub returns : goal.returns
returns c = wrong_is_none
