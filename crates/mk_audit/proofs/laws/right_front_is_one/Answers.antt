use Rattle.mk_audit.proofs.OneRun.{right_front_is_one}
use Rattle.mk_audit.proofs.laws.right_front_is_one.Goals as goal

pub returns : goal.returns
returns c = right_front_is_one
