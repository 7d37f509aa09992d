use Rattle.std.proofs.Common.{ℕ, List, ◌∷◌, ◌++◌, [], sym, ap₂, ◌∙◌, arith}
use Rattle.std.proofs.lemmas.List.FromFn.{map-range_with_len_more}
use Rattle.mk_replay.specs.inner.Dues.{value_given}
use Rattle.mk_replay.proofs.Outcomes.{outcome_one, outcome_state}
use Rattle.mk_replay.proofs.by_rule.outcome_of.Goals as goal

pub loop-variable-preserved : goal.loop-variable-preserved
loop-variable-preserved c =
    let i = c.loop-variable.variable in
    record {
      count = omega (arith, c.push.ensures.len, c.loop-variable.invariant.count);
      given = c.push.ensures.items
          ∙ ap₂ (λ (vs : List ℕ) (v : ℕ). vs ++ v ∷ []) c.loop-variable.invariant.given
          c.value_given.ensures
          ∙ sym (map-range_with_len_more (value_given c.args.known.now) 0 i i (omega arith));
    }

pub returns-clause-outcome : goal.returns-clause-outcome
returns-clause-outcome c = λ network H net proper are.
    outcome_one network H c.args.known.now c.args.variables net proper are
    c.loop-variable.state.items c.loop-variable.variable (omega arith)
    c.loop-variable.invariant.given

pub returns-clause-state : goal.returns-clause-state
returns-clause-state c = λ network H net proper are.
    outcome_state network H c.args.known.now c.args.variables net proper are
    c.loop-variable.state.items c.loop-variable.variable (omega arith)
    c.loop-variable.invariant.given
