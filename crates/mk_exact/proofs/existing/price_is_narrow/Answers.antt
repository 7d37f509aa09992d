use Rattle.mk_exact.specs.Weight.{IsSmall}
use Rattle.mk_exact.specs.Prices.{exact_price}
use Rattle.mk_exact.proofs.existing.price_is_narrow.Goals as goal
use Rattle.mk_exact.proofs.ExistNumbers.{price_is_narrow}

pub returns : goal.returns
returns c = λ network H most_trades asked low high covers. price_is_narrow (IsSmall network H)
    most_trades
    (exact_price network H asked) low high covers
