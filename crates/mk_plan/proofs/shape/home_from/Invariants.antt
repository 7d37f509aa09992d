use Rattle.std.proofs.Common.{◌≡◌, ℕ, ◌+◌, ◌<◌, false}
use Rattle.mk_tree.specs.Given.{clique_at, holds_event}
use Rattle.mk_plan.proofs.shape.home_from.Given as goal

abbrev pub invariant-loop-passed : goal.invariant-loop-passed
invariant-loop-passed l = (i : ℕ) → i < l.passed → holds_event l.pairs (clique_at l.tree (i + 1)) ≡ false
