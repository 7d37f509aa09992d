use Rattle.std.proofs.Common.{◌≡◌, ℕ, ◌<◌, true}
use Rattle.mk_tree.specs.Tests.{is_covered}
use Rattle.mk_tree.proofs.check.first_uncovered.Given as goal

abbrev pub invariant-loop-variable : goal.invariant-loop-variable
invariant-loop-variable l = (x : ℕ) → x < l.variable → is_covered l.net l.cliques x ≡ true
