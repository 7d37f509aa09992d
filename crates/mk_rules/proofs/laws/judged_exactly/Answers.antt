use Rattle.mk_rules.proofs.laws.judged_exactly.Goals as goal
use Rattle.mk_rules.proofs.Judged.{judged_exactly}

pub returns : goal.returns
returns c = judged_exactly
