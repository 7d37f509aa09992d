use Rattle.std.proofs.Common.{◌≡◌, length}
use Rattle.mk_quote.proofs.Spreading.{AreIntervalsSoFar}
use Rattle.mk_quote.proofs.spread_quote.SpreadQuote.intervals.Given as goal

abbrev pub invariant-loop-value : goal.invariant-loop-value
invariant-loop-value l = record {
  so_far : AreIntervalsSoFar l.value-items l.value-index (l.intervals).items;
  long : length (l.intervals).items ≡ l.value-index;
}
