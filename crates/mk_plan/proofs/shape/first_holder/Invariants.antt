use Rattle.std.proofs.Common.{◌≡◌, ℕ, ◌+◌, ◌<◌, false}
use Rattle.mk_tree.specs.Given.{holds}
use Rattle.mk_plan.proofs.shape.first_holder.Given as goal

abbrev pub invariant-loop-passed : goal.invariant-loop-passed
invariant-loop-passed l = (i : ℕ) → i < l.passed → holds l.tree (i + 1) l.variable ≡ false
