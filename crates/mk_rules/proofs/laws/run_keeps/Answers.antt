use Rattle.mk_rules.proofs.laws.run_keeps.Goals as goal
use Rattle.mk_rules.proofs.Keeps.{run_keeps}

pub returns : goal.returns
returns c = λ market old new lines replies. run_keeps market old new lines replies
