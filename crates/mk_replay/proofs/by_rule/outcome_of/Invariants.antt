use Rattle.std.proofs.Common.{◌≡◌, map}
use Rattle.arrayvec.specs.ArrayVec.{array_vec_len}
use Rattle.mk_states.specs.States.{numbers_below}
use Rattle.mk_replay.specs.inner.Dues.{value_given}
use Rattle.mk_replay.proofs.by_rule.outcome_of.Given as goal

abbrev pub invariant-loop-variable : goal.invariant-loop-variable
invariant-loop-variable l = record {
  count : array_vec_len l.state ≡ l.variable;
  given : l.state.items ≡ map (value_given l.known) (numbers_below l.variable);
}
