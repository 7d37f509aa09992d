use Rattle.mk_quote.proofs.Serving.{exactly_serves}
use Rattle.mk_quote.proofs.laws.exactly_serves.Goals as goal

pub returns : goal.returns
returns c = λ bounds side of exact X. exactly_serves bounds side of exact X
