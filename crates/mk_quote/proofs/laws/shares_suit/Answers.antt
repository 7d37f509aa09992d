use Rattle.mk_quote.proofs.Suiting.{shares_suit}
use Rattle.mk_quote.proofs.laws.shares_suit.Goals as goal

pub returns : goal.returns
returns c = shares_suit
