use Rattle.mk_exact.specs.Weight.{IsSmall}
use Rattle.mk_exact.specs.Factors.{HoldsNoTrade}
use Rattle.mk_exact.proofs.existing.cash_fits.Goals as goal
use Rattle.mk_exact.proofs.ExistBounds.{cash_fits}

pub returns : goal.returns
returns c = λ network H most_trades u. cash_fits (IsSmall network H) (HoldsNoTrade H u) H
    most_trades u
