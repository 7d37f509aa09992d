use Rattle.std.proofs.Common.{◌≡◌, ◌+◌, List, map, take, ◌∙◌, sym, ap, arith}
use Rattle.std.proofs.lemmas.List.{take_all}
use Rattle.mk_net.specs.Stored.{variables_of}
use Rattle.mk_net.specs.Drafts.{drafts_of, draft_of_variable}
use Rattle.mk_net.specs.Checked.{checked_variable, checked_network}
use Rattle.mk_net.specs.declared.draft.VariableDraft.{VariableDraft}
use Rattle.mk_net.proofs.Checked.{IsFaultless, its_name, its_values, its_values_apart, checked_is_network, no_zeros}
use Rattle.mk_net.proofs.Build.{its_faultless, its_shares, next_variable}
use Rattle.mk_net.proofs.network.build.network.Goals as goal

faultless : (c : goal.After-variable-item) → IsFaultless (drafts_of c.args.draft.now) (1 + c.variables.variable-index) (draft_of_variable c.variable-item.result)
faultless c =
    its_faultless c.args.draft.now c.requires c.variables.variable-index c.variable-item.result
    (rw c.deref-variable-items.ensures.value at c.variables-test.true) (rw c.deref-variable-items.ensures.value at c.variable-item.is)

pub stored-requires-clause-names : goal.stored-requires-clause-names
stored-requires-clause-names c = its_values (drafts_of c.args.draft.now) c.variables.variable-index (draft_of_variable c.variable-item.result) (faultless c)

pub stored-requires-clause-apart : goal.stored-requires-clause-apart
stored-requires-clause-apart c = its_values_apart (drafts_of c.args.draft.now) c.variables.variable-index (draft_of_variable c.variable-item.result) (faultless c)

pub stored-requires-clause-shares : goal.stored-requires-clause-shares
stored-requires-clause-shares c = its_shares c.args.draft.now c.requires c.variables.variable-index c.variable-item.result
    (rw c.deref-variable-items.ensures.value at c.variables-test.true) (rw c.deref-variable-items.ensures.value at c.variable-item.is)

pub name-requires : goal.name-requires
name-requires c =
    let is : IsFaultless (drafts_of c.args.draft.now) (1 + c.variables.variable-index) (draft_of_variable c.variable-item.result) =
    its_faultless c.args.draft.now c.requires c.variables.variable-index c.variable-item.result
    (rw c.deref-variable-items.ensures.value at c.variables-test.true) (rw c.deref-variable-items.ensures.value at c.variable-item.is) in
    rw c.deref.ensures (its_name (drafts_of c.args.draft.now) c.variables.variable-index (draft_of_variable c.variable-item.result) is)

pub variables-preserved : goal.variables-preserved
variables-preserved c =
    let done : variables_of c.variables.variables.entries ≡ map (checked_variable (drafts_of c.args.draft.now)) (map draft_of_variable (take c.variables.variable-index c.args.draft.now.variables.items)) =
    c.variables.invariant ∙ ap (λ (vs : List VariableDraft). map (checked_variable (drafts_of c.args.draft.now)) (map draft_of_variable (take c.variables.variable-index vs))) c.deref-variable-items.ensures.value in
    ap variables_of c.in_ok-insert.ensures.entries
    ∙ next_variable c.args.draft.now c.requires c.variables.variable-index c.variable-item.result
    (rw c.deref-variable-items.ensures.value at c.variables-test.true) (rw c.deref-variable-items.ensures.value at c.variable-item.is)
    c.variables.variables.entries c.name.result c.in_ok-stored.stored done (c.name.ensures ∙ c.deref.ensures) c.in_ok-stored.ensures.variable
    ∙ sym (ap (λ (vs : List VariableDraft). map (checked_variable (drafts_of c.args.draft.now)) (map draft_of_variable (take (c.variables.variable-index + 1) vs))) c.deref-variable-items.ensures.value)

whole : (c : goal.In_ok-zeros) → variables_of c.variables.variables.entries ≡ checked_network (drafts_of c.args.draft.now)
whole c =
    c.variables.invariant
    ∙ ap (λ (vs : List VariableDraft). map (checked_variable (drafts_of c.args.draft.now)) (map draft_of_variable vs)) (take_all c.variables.variable-index c.deref-variable-items.result.now (omega arith))
    ∙ ap (λ (vs : List VariableDraft). map (checked_variable (drafts_of c.args.draft.now)) (map draft_of_variable vs)) c.deref-variable-items.ensures.value

pub invariant_of-result : goal.invariant_of-result
invariant_of-result c = record {
  network = rw (whole c) (checked_is_network c.args.draft.now.zeros (drafts_of c.args.draft.now) c.requires);
  zeros = c.in_ok-zeros.ensures.zeros;
}

pub returns-clause-no_zeros : goal.returns-clause-no_zeros
returns-clause-no_zeros c = no_zeros c.args.draft.now.zeros (drafts_of c.args.draft.now) (variables_of c.variables.variables.entries) c.requires (whole c)
