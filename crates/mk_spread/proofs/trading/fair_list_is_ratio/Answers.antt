use Rattle.mk_spread.proofs.Fair.{fair_list_is_ratio}
use Rattle.mk_spread.proofs.trading.fair_list_is_ratio.Goals as goal

pub returns : goal.returns
returns c = λ network H u spread Xs Fs fits list. fair_list_is_ratio network H u spread Xs Fs list fits
