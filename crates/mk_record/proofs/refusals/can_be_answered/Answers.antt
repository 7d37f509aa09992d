use Rattle.std.proofs.Common.{◌≡◌, List, is_none, Some, IfOk, sym, ap, subst, ◌∙◌}
use Rattle.mk_net.specs.declared.words.Pair.{Pair}
use Rattle.mk_net.specs.Firsts.{fault_if}
use Rattle.mk_tree.specs.Given.{home}
use Rattle.mk_reply.specs.declared.refusal.Refusal.TheVariants.{Wide}
use Rattle.mk_rules.specs.Refusals.{impossible}
use Rattle.mk_rules.proofs.Unrefused.{target_named, variable_known}
use Rattle.mk_record.proofs.Refusing.{one_each, others_known, wide_is_homeless, can_answer, where_ok, last_refusal, error_kept, question_resolved, question_impossible, pair_is, pairs_are, slice_known}
use Rattle.mk_record.proofs.refusals.can_be_answered.Goals as goal

pub returns-in_err-not_resolved-clause-refusal : goal.returns-in_err-not_resolved-clause-refusal
returns-in_err-not_resolved-clause-refusal c =
    let net = c.args.file.now.net in let q = c.args.question.now in
    let number = variable_known net q.target c.target.result (pair_is net q c.args.asked.now c.target.result c.requires.named c.target.ensures) in
    error_kept c.from_residual.result c.in_err-not_resolved.field-0.0 c.from_residual.ensures.1
    ∙ question_resolved c.args.file.now c.args.journal.now.history q c.in_err-not_resolved.field-0.0 (c.in_err-not_resolved.ensures net number.0 number.1)

pub agrees-requires : goal.agrees-requires
agrees-requires c = record {
  one_each =
      one_each c.args.file.now.net c.args.question.now.condition.items c.as_slice.result.now c.condition.result (others_known c.args.file.now.net _ _ c.requires.known)
      (c.condition.ensures.condition ∙ (target_named c.args.file.now.net c.args.question.now c.args.asked.now c.requires.named).1) c.as_slice.ensures.value;
}

pub returns-in_err-agrees-clause-refusal : goal.returns-in_err-agrees-clause-refusal
returns-in_err-agrees-clause-refusal c =
    let net = c.args.file.now.net in let H = c.args.journal.now.history in let q = c.args.question.now in let asked = c.args.asked.now in
    let number = variable_known net q.target c.target.result (pair_is net q asked c.target.result c.requires.named c.target.ensures) in
    let agreed = c.in_err-agrees.ensures net (slice_known net q _ c.as_slice.ensures.value c.requires.known) (pairs_are net q asked c.condition.result _ c.requires.named c.condition.ensures.condition c.as_slice.ensures.value) in
    error_kept c.from_residual-in_err-agrees.result c.in_err-agrees.field-0.0 c.from_residual-in_err-agrees.ensures.1
    ∙ question_impossible c.args.file.now H q c.in_err-agrees.field-0.0 (c.in_ok-not_resolved.ensures net number.0 number.1) (agreed ∙ ap (impossible net H) c.as_slice.ensures.value)

pub returns-clause-refusal : goal.returns-clause-refusal
returns-clause-refusal c =
    let net = c.args.file.now.net in let H = c.args.journal.now.history in let q = c.args.question.now in let asked = c.args.asked.now in
    let number = variable_known net q.target c.target.result (pair_is net q asked c.target.result c.requires.named c.target.ensures) in
    let free = c.in_ok-not_resolved.ensures net number.0 number.1 in
    let agreed = c.in_ok-agrees.ensures net (slice_known net q _ c.as_slice.ensures.value c.requires.known) (pairs_are net q asked c.condition.result _ c.requires.named c.condition.ensures.condition c.as_slice.ensures.value) in
    last_refusal _ _ _ _ _ (sym free) (sym (agreed ∙ ap (impossible net H) c.as_slice.ensures.value)) (wide_is_homeless c.args.file.now H q asked c.requires.named c.requires.known)
    (c.home_in.ensures.refusal ∙ ap (λ (ps : List Pair). fault_if
    (is_none (home c.args.file.now.tree ps)) Wide) c.event.ensures.pairs)

pub returns-clause-question : goal.returns-clause-question
returns-clause-question c =
    let net = c.args.file.now.net in let H = c.args.journal.now.history in let q = c.args.question.now in let asked = c.args.asked.now in
    let number = variable_known net q.target c.target.result (pair_is net q asked c.target.result c.requires.named c.target.ensures) in
    let free = c.in_ok-not_resolved.ensures net number.0 number.1 in
    let agreed = c.in_ok-agrees.ensures net (slice_known net q _ c.as_slice.ensures.value c.requires.known) (pairs_are net q asked c.condition.result _ c.requires.named c.condition.ensures.condition c.as_slice.ensures.value) in
    where_ok c.home_in.result (λ held. can_answer c.args.file.now H q asked c.requires.named
    c.requires.known c.condition.ensures.question
    (sym free) (sym (agreed ∙ ap (impossible net H) c.as_slice.ensures.value))
    (sym (c.home_in.ensures.refusal ∙ ap (λ (ps : List Pair). fault_if
    (is_none (home c.args.file.now.tree ps)) Wide) c.event.ensures.pairs) ∙ held))

pub returns-clause-home : goal.returns-clause-home
returns-clause-home c =
    subst (λ (ps : List Pair). IfOk c.home_in.result
    (λ found. home c.args.file.now.tree ps ≡ Some found)) c.event.ensures.pairs
    c.home_in.ensures.home
