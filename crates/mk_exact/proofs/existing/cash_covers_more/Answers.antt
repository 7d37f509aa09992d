use Rattle.mk_exact.specs.Weight.{IsSmall}
use Rattle.mk_exact.specs.Factors.{HoldsNoTrade}
use Rattle.mk_exact.proofs.existing.cash_covers_more.Goals as goal
use Rattle.mk_exact.proofs.Sharp.{cash_covers_more}

pub returns : goal.returns
returns c = λ network H u. cash_covers_more (IsSmall network H) (HoldsNoTrade H u)
