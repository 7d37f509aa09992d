use Rattle.std.proofs.Common.{◌≡◌, ℕ, ◌<◌, ◌≤◌, List, length, false}
use Rattle.std.specs.List.{AllZip, range_with_len}
use Rattle.mk_states.specs.Events.{holds}
use Rattle.mk_exact.specs.History.{Entry, trades}
use Rattle.mk_exact.specs.Weight.{cannot_come}
use Rattle.mk_spread.specs.Told.{CoversValue}
use Rattle.mk_tree.specs.Given.{GivenTree}
use Rattle.mk_engine.specs.Meaning.{Meaning}
use Rattle.mk_beliefs.specs.Meanings.{weights_of}
use Rattle.mk_quote.specs.Questions.{spread_in}
use Rattle.mk_answers.specs.Open.{IsOpen, CanBeSpreadHere}
use Rattle.mk_answers.proofs.telling.prices_of.Given as goal

abbrev pub invariant-loop-value : goal.invariant-loop-value
invariant-loop-value g l = record {
  kept : (m : Meaning) → g.P.Engine.stands_for l.fn.prices m → g.P.Engine.stands_for l.prices m;
  long : length (l.intervals).items ≡ l.value;
  priced : (tree : GivenTree) (H : List Entry) (most_trades : ℕ)
      → g.P.Engine.stands_for l.fn.prices (weights_of l.net tree H)
      → IsOpen l.net tree H → length (trades H) ≤ most_trades
      → CanBeSpreadHere l.net tree H (spread_in l.asked)
      → AllZip (CoversValue l.net H most_trades (spread_in l.asked)) (range_with_len 0 l.value)
      (l.intervals).items;
  comes : (tree : GivenTree) (H : List Entry)
      → g.P.Engine.stands_for l.fn.prices (weights_of l.net tree H)
      → IsOpen l.net tree H → CanBeSpreadHere l.net tree H (spread_in l.asked) → 0 < l.value
      → cannot_come l.net H (holds (spread_in l.asked).condition) ≡ false;
}
