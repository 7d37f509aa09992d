use Rattle.std.proofs.Common.{◌≡◌, ℕ, ◌≤◌, List, length}
use Rattle.std.specs.List.{AllByRecursion}
use Rattle.mk_exact.specs.History.{Entry}
use Rattle.mk_tree.specs.Given.{GivenTree}
use Rattle.mk_engine.specs.Meaning.{Meaning}
use Rattle.mk_beliefs.specs.Meanings.{weights_of}
use Rattle.mk_assets.specs.Holdings.{Holding, Owns}
use Rattle.mk_quote.specs.Questions.{spread_in}
use Rattle.mk_answers.specs.Open.{IsOpen, holding_of}
use Rattle.mk_answers.specs.inner.Found.{IsValueCounted, IsValueGraded}
use Rattle.mk_answers.proofs.Valued.{AreFirstFound}
use Rattle.mk_answers.proofs.spread.spread_bounds_of.Given as goal

abbrev pub invariant-loop-value : goal.invariant-loop-value
invariant-loop-value g l = record {
  kept : (m : Meaning) → g.P.Engine.stands_for l.fn.prices m → g.P.Engine.stands_for l.prices m;
  kept_assets : (h : Holding) → Owns g.A.Engine.stands_for l.fn.assets h → Owns g.A.Engine.stands_for l.assets h;
  long : length (l.parts).items ≡ l.value;
  parts : (tree : GivenTree) (H : List Entry) (u : ℕ) → g.P.Engine.stands_for l.fn.prices (weights_of l.net tree H)
      → Owns g.A.Engine.stands_for l.fn.assets (holding_of l.net tree H u) → IsOpen l.net tree H
      → AreFirstFound l.net H u (spread_in l.asked) l.value (l.parts).items;
  counted : (tree : GivenTree) (H : List Entry) (u : ℕ)
      → Owns g.A.Engine.stands_for l.fn.assets (holding_of l.net tree H u) → IsOpen l.net tree H
      → AllByRecursion (IsValueCounted H u) (l.parts).items;
  graded : (m : Meaning) (h : Holding) (most : ℕ) → g.P.Engine.stands_for l.fn.prices m
      → Owns g.A.Engine.stands_for l.fn.assets h → g.P.Engine.grade_of m ≤ most
      → g.A.Engine.grade_of h.meaning ≤ most
      → AllByRecursion (IsValueGraded most) (l.parts).items;
}
