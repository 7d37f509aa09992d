use Rattle.mk_rules.proofs.laws.one_refusal.Goals as goal
use Rattle.mk_rules.proofs.OneKind.{one_refusal}

pub returns : goal.returns
returns c = one_refusal
