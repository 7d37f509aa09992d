use Rattle.mk_spread.proofs.Fair.{fair_list_fits}
use Rattle.mk_spread.proofs.trading.fair_list_fits.Goals as goal

pub returns : goal.returns
returns c = λ network H u spread Xs Fs net within list. fair_list_fits network H u spread Xs Fs list net within
