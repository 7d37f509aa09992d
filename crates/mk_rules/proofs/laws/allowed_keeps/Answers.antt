use Rattle.mk_rules.proofs.laws.allowed_keeps.Goals as goal
use Rattle.mk_rules.proofs.Keeps.{allowed_keeps}

pub returns : goal.returns
returns c = λ market now line reply. allowed_keeps market now line reply
