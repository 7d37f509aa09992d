use Rattle.mk_quote.proofs.Serving.{wanted_serves}
use Rattle.mk_quote.proofs.laws.wanted_serves.Goals as goal

pub returns : goal.returns
returns c = λ bounds side of graded X some serves. wanted_serves bounds side of graded X some serves
