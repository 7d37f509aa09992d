use Rattle.std.proofs.Common.{◌≡◌, ◌≤◌, not}
use Rattle.std.specs.List.{count_by}
use Rattle.mk_states.specs.States.{numbers_below}
use Rattle.mk_rules.specs.Refusals.{is_resolved}
use Rattle.mk_asking.proofs.counting.open_questions.Given as goal

abbrev pub invariant-loop-variable : goal.invariant-loop-variable
invariant-loop-variable l = record {
  counted : l.open ≡ count_by (λ v. not (is_resolved l.journal.history v))
      (numbers_below l.variable);
  few : l.open ≤ l.variable;
}
