use Rattle.mk_rules.proofs.laws.ready_keeps.Goals as goal
use Rattle.mk_rules.proofs.Ready.{ready_keeps}

pub returns : goal.returns
returns c = ready_keeps
