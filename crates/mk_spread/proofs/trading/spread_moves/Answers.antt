use Rattle.mk_spread.proofs.Moves.{spread_moves}
use Rattle.mk_spread.proofs.trading.spread_moves.Goals as goal

pub returns : goal.returns
returns c = λ network H u spread Xs Fs within shares list value p. spread_moves network H u spread Xs Fs within list shares value p
