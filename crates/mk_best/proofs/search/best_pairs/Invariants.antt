use Rattle.std.proofs.Common.{List, length, ◌≤◌}
use Rattle.mk_net.specs.Bounds.{max_market_trades}
use Rattle.mk_exact.specs.History.{Entry, trades}
use Rattle.mk_beliefs.specs.Meanings.{weights_of}
use Rattle.mk_best.specs.inner.Engines.{learned}
use Rattle.mk_best.specs.inner.Picks.{AreFound}
use Rattle.mk_best.proofs.search.best_pairs.Given as goal

abbrev pub invariant-loop-variable : goal.invariant-loop-variable
invariant-loop-variable g l = record {
  learned_so_far : (H : List Entry) → g.E.Engine.stands_for l.fn.engine (weights_of l.net l.tree H)
      → g.E.Engine.stands_for l.engine (weights_of l.net l.tree (learned H l.pairs.items));
  found : (H : List Entry) → g.E.Engine.stands_for l.fn.engine (weights_of l.net l.tree H)
      → length (trades H) ≤ max_market_trades → AreFound l.net H l.variable l.pairs.items;
}
