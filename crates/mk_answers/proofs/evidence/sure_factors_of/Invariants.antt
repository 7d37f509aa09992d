use Rattle.std.proofs.Common.{◌≡◌, ℕ, ◌≤◌, List, length, Option}
use Rattle.std.specs.List.{AllZip, range_with_len}
use Rattle.mk_states.specs.Events.{with_target}
use Rattle.mk_exact.specs.History.{Entry}
use Rattle.mk_spread.specs.Spreads.{asked_of}
use Rattle.mk_tree.specs.Given.{GivenTree}
use Rattle.mk_enclose.specs.declared.factor.Factor.{Factor}
use Rattle.mk_beliefs.specs.Meanings.{gains_of}
use Rattle.mk_assets.specs.Holdings.{Holding, Owns}
use Rattle.mk_quote.specs.Questions.{spread_in}
use Rattle.mk_answers.specs.Open.{IsOpen, holding_of}
use Rattle.mk_answers.specs.Evidence.{IsSureFactor}
use Rattle.mk_answers.proofs.evidence.sure_factors_of.Given as goal

abbrev pub invariant-loop-value : goal.invariant-loop-value
invariant-loop-value g l = record {
  kept_assets : (h : Holding) → Owns g.A.Engine.stands_for l.fn.assets h
      → Owns g.A.Engine.stands_for l.assets h;
  long : length (l.factors).items ≡ l.value;
  sure : (tree : GivenTree) (H : List Entry) (u most : ℕ)
      → Owns g.A.Engine.stands_for l.fn.assets (holding_of l.net tree H u) → IsOpen l.net tree H
      → g.A.Engine.grade_of (gains_of l.net tree H u) ≤ most
      → AllZip (λ value (factor : Option Factor). IsSureFactor most l.net H u
      (with_target (asked_of (spread_in l.asked) value)) factor) (range_with_len 0 l.value)
      (l.factors).items;
}
