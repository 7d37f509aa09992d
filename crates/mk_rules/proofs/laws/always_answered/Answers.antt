use Rattle.mk_rules.proofs.laws.always_answered.Goals as goal
use Rattle.mk_rules.proofs.Answered.{always_answered}

pub returns : goal.returns
returns c = always_answered
