use Rattle.mk_exact.specs.Weight.{IsSmall}
use Rattle.mk_exact.specs.Factors.{HoldsNoTrade}
use Rattle.mk_exact.proofs.existing.least_cash_fits.Goals as goal
use Rattle.mk_exact.proofs.ExistBounds.{least_cash_fits}

pub returns : goal.returns
returns c = λ network H most_trades u. least_cash_fits (IsSmall network H) (HoldsNoTrade H u)
    network H
    most_trades u
