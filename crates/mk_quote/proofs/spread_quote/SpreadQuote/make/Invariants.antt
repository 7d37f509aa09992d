use Rattle.std.proofs.Common.{◌≡◌, map, take, option_map}
use Rattle.mk_quote.specs.Values.{side_in}
use Rattle.mk_quote.proofs.spread_quote.SpreadQuote.make.Given as goal

abbrev pub invariant-loop-value : goal.invariant-loop-value
invariant-loop-value l = (l.sides).items ≡ map (option_map (side_in l.bounds)) (take l.value-index l.value-items)
