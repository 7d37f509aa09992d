use Rattle.mk_quote.proofs.Serving.{served_is_fair}
use Rattle.mk_quote.proofs.laws.served_is_fair.Goals as goal

pub returns : goal.returns
returns c = λ bounds side of graded X some serves. served_is_fair bounds side of graded X some serves
