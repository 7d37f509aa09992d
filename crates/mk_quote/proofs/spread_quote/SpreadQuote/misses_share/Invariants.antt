use Rattle.mk_quote.proofs.Suiting.{IsMissedFrom}
use Rattle.mk_quote.proofs.spread_quote.SpreadQuote.misses_share.Given as goal

abbrev pub invariant-loop-index : goal.invariant-loop-index
invariant-loop-index l = IsMissedFrom (l.self).sides.items l.xs l.index
