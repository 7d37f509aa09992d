use Rattle.std.proofs.Common.{◌≡◌, ℕ, ◌<◌, true}
use Rattle.mk_sets.specs.Sets.{is_member}
use Rattle.mk_joint.proofs.joint.all_variables.Given as goal

abbrev pub invariant-loop-variable : goal.invariant-loop-variable
invariant-loop-variable l = record {
  all : (x : ℕ) → x < l.variable → is_member l.all x ≡ true;
  no_other : (x : ℕ) → is_member l.all x ≡ true → x < l.variable;
}
