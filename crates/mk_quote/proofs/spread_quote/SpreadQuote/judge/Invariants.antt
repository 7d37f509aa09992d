use Rattle.std.proofs.Common.{◌≡◌, length}
use Rattle.mk_quote.proofs.Judging.{AreUnitsSoFar}
use Rattle.mk_quote.proofs.spread_quote.SpreadQuote.judge.Given as goal

abbrev pub invariant-loop-index : goal.invariant-loop-index
invariant-loop-index l = record {
  so_far : AreUnitsSoFar (l.self).sides.items l.xs l.index (l.units).items;
  long : length (l.units).items ≡ l.index;
}
