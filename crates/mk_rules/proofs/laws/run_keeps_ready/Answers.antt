use Rattle.mk_rules.proofs.laws.run_keeps_ready.Goals as goal
use Rattle.mk_rules.proofs.Ready.{run_keeps_ready}

pub returns : goal.returns
returns c = run_keeps_ready
