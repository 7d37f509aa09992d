use Rattle.std.proofs.Common.{◌≡◌, ℕ, ◌≤◌, List, length}
use Rattle.std.specs.List.{AllZip, range_with_len}
use Rattle.mk_exact.specs.History.{Entry, trades}
use Rattle.mk_exact.specs.Sound.{IsSound}
use Rattle.mk_spread.specs.Told.{IsSureOf}
use Rattle.mk_tree.specs.Given.{GivenTree}
use Rattle.mk_assets.specs.Holdings.{Holding, Owns}
use Rattle.mk_quote.specs.Questions.{spread_in}
use Rattle.mk_answers.specs.Open.{IsOpen, holding_of}
use Rattle.mk_answers.proofs.telling.position_of.Given as goal

abbrev pub invariant-loop-value : goal.invariant-loop-value
invariant-loop-value g l = record {
  kept_assets : (h : Holding) → Owns g.A.Engine.stands_for l.fn.assets h
      → Owns g.A.Engine.stands_for l.assets h;
  long : length (l.intervals).items ≡ l.value;
  sure : (tree : GivenTree) (H : List Entry) (most_trades u : ℕ)
      → Owns g.A.Engine.stands_for l.fn.assets (holding_of l.net tree H u) → IsOpen l.net tree H
      → length (trades H) ≤ most_trades → IsSound l.net H
      → AllZip (IsSureOf l.net H most_trades u l.points_per_bit (spread_in l.asked))
      (range_with_len 0 l.value) (l.intervals).items;
}
