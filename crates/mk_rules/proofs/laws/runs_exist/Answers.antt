use Rattle.mk_rules.proofs.laws.runs_exist.Goals as goal
use Rattle.mk_rules.proofs.Answered.{runs_exist}

pub returns : goal.returns
returns c = runs_exist
