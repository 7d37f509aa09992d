use Rattle.mk_rules.proofs.laws.spread_one_kind.Goals as goal
use Rattle.mk_rules.proofs.OneKind.{spread_one_kind}

pub returns : goal.returns
returns c = spread_one_kind
