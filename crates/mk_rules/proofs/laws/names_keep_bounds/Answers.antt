use Rattle.mk_rules.proofs.laws.names_keep_bounds.Goals as goal
use Rattle.mk_rules.proofs.Bounds.{limits_of}
use Rattle.mk_rules.proofs.Follows.{names_keep_bounds}

pub returns : goal.returns
returns c = λ market now line reply is_market.
    names_keep_bounds market now line reply (limits_of market is_market)
