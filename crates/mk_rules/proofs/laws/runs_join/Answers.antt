use Rattle.mk_rules.proofs.laws.runs_join.Goals as goal
use Rattle.mk_rules.proofs.Keeps.{runs_join}

pub returns : goal.returns
returns c = runs_join
