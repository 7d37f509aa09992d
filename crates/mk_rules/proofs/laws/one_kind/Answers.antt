use Rattle.mk_rules.proofs.laws.one_kind.Goals as goal
use Rattle.mk_rules.proofs.OneKind.{one_kind}

pub returns : goal.returns
returns c = one_kind
