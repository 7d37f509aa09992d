use Rattle.mk_rules.proofs.laws.spread_judged_exactly.Goals as goal
use Rattle.mk_rules.proofs.Judged.{spread_judged_exactly}

pub returns : goal.returns
returns c = spread_judged_exactly
