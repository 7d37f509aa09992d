use Rattle.std.proofs.Common.{List, length, ◌≤◌}
use Rattle.mk_net.specs.Bounds.{max_market_trades}
use Rattle.mk_exact.specs.History.{Entry, trades}
use Rattle.mk_exact.specs.Weight.{IsSmall}
use Rattle.mk_engine.specs.Meaning.{Meaning}
use Rattle.mk_beliefs.specs.Meanings.{weights_of}
use Rattle.mk_best.specs.inner.Picks.{low_of, greatest_with, IsPickOf}
use Rattle.mk_best.proofs.picks.best_value.Given as goal

abbrev pub invariant-loop-value : goal.invariant-loop-value
invariant-loop-value g l = record {
  kept : (m : Meaning) → g.E.Engine.stands_for l.fn.engine m → g.E.Engine.stands_for l.engine m;
  found : (H : List Entry) → g.E.Engine.stands_for l.fn.engine (weights_of l.net l.tree H)
      → length (trades H) ≤ max_market_trades
      → IsPickOf l.value (greatest_with l.net H l.variable) (IsSmall l.net H) l.best
      (low_of l.most);
}
