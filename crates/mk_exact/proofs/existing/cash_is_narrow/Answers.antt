use Rattle.mk_exact.specs.Weight.{IsSmall}
use Rattle.mk_exact.specs.Factors.{HoldsNoTrade}
use Rattle.mk_exact.proofs.existing.cash_is_narrow.Goals as goal
use Rattle.mk_exact.proofs.ExistNumbers.{cash_is_narrow}

pub returns : goal.returns
returns c = λ network H most_trades u q b low high few covers. cash_is_narrow (IsSmall network H)
    (HoldsNoTrade H u) most_trades q b low high few covers
