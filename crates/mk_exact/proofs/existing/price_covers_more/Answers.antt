use Rattle.mk_exact.specs.Weight.{IsSmall}
use Rattle.mk_exact.proofs.existing.price_covers_more.Goals as goal
use Rattle.mk_exact.proofs.Sharp.{price_covers_more}

pub returns : goal.returns
returns c = λ network H. price_covers_more (IsSmall network H)
