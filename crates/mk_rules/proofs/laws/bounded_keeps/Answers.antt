use Rattle.mk_rules.proofs.laws.bounded_keeps.Goals as goal
use Rattle.mk_rules.proofs.Bounds.{limits_of}
use Rattle.mk_rules.proofs.Follows.{bounded_keeps}

pub returns : goal.returns
returns c = λ market now line reply is_market.
    bounded_keeps market now line reply (limits_of market is_market)
