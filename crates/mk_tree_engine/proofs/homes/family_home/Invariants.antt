use Rattle.std.proofs.Common.{◌≡◌, ℕ, ◌+◌, ◌<◌, false}
use Rattle.mk_tree.specs.Given.{clique_at}
use Rattle.mk_tree.specs.Tests.{holds_family}
use Rattle.mk_tree_engine.proofs.homes.family_home.Given as goal

abbrev pub invariant-loop-passed : goal.invariant-loop-passed
invariant-loop-passed l = (i : ℕ) → i < l.passed → holds_family l.net l.variable (clique_at l.tree (i + 1)) ≡ false
