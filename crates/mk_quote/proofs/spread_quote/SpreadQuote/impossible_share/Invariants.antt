use Rattle.mk_quote.proofs.Suiting.{IsFirstFrom}
use Rattle.mk_quote.proofs.spread_quote.SpreadQuote.impossible_share.Given as goal

abbrev pub invariant-loop-index : goal.invariant-loop-index
invariant-loop-index l = IsFirstFrom (l.self).sides.items l.xs l.index
