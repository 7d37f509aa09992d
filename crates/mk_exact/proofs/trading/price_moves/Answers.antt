use Rattle.mk_exact.proofs.trading.price_moves.Goals as goal
use Rattle.mk_exact.proofs.Fair.{price_moves}

pub returns : goal.returns
returns c = price_moves
