use Rattle.mk_rules.proofs.laws.unquoted_is_ready.Goals as goal
use Rattle.mk_rules.proofs.Ready.{unquoted_is_ready}

pub returns : goal.returns
returns c = unquoted_is_ready
