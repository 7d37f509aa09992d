use Rattle.mk_rules.proofs.laws.settlement_keeps.Goals as goal
use Rattle.mk_rules.proofs.Paid.{settlement_keeps}

pub returns : goal.returns
returns c = settlement_keeps
