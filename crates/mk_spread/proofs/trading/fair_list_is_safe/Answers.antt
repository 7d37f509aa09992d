use Rattle.mk_spread.proofs.Safe.{fair_list_is_safe}
use Rattle.mk_spread.proofs.trading.fair_list_is_safe.Goals as goal

pub returns : goal.returns
returns c = λ network H u spread Xs Fs within shares list. fair_list_is_safe network H u spread Xs Fs within list shares
