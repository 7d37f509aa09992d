use Rattle.std.proofs.Common.{◌≡◌, List, is_none, Some, IfOk, refl, sym, ap, subst, ◌∙◌}
use Rattle.mk_net.specs.declared.words.Pair.{Pair}
use Rattle.mk_net.specs.Firsts.{fault_if}
use Rattle.mk_tree.specs.Given.{home}
use Rattle.mk_quote.specs.Questions.{spread_in}
use Rattle.mk_reply.specs.declared.refusal.Refusal.TheVariants.{Wide}
use Rattle.mk_rules.proofs.Spreads.{spread_parts}
use Rattle.mk_record.proofs.Refusing.{one_each, error_kept, where_ok, last_refusal}
use Rattle.mk_record.proofs.SpreadRefusals.{spread_resolved, spread_impossible, front_apart, spread_is_homeless, can_answer_spread}
use Rattle.mk_record.proofs.refusing_spreads.can_be_spread.Goals as goal

pub returns-in_err-not_resolved-clause-refusal : goal.returns-in_err-not_resolved-clause-refusal
returns-in_err-not_resolved-clause-refusal c =
    let net = c.args.file.now.net in let ps = c.args.condition.now in
    let parts = spread_parts net c.args.variable.now ps (spread_in c.args.asked.now) c.requires.named in
    error_kept c.from_residual.result c.in_err-not_resolved.field-0.0 c.from_residual.ensures.1
    ∙ spread_resolved c.args.file.now c.args.journal.now.history c.args.variable.now ps c.in_err-not_resolved.field-0.0 (c.in_err-not_resolved.ensures net parts.0 parts.1)

pub agrees-requires : goal.agrees-requires
agrees-requires c =
    let net = c.args.file.now.net in
    record {
      one_each =
          one_each net c.args.condition.now c.args.condition.now c.args.asked.now.condition c.requires.known
          (spread_parts net c.args.variable.now c.args.condition.now (spread_in c.args.asked.now) c.requires.named).2 refl;
    }

pub returns-in_err-agrees-clause-refusal : goal.returns-in_err-agrees-clause-refusal
returns-in_err-agrees-clause-refusal c =
    let net = c.args.file.now.net in let H = c.args.journal.now.history in let ps = c.args.condition.now in
    let parts = spread_parts net c.args.variable.now ps (spread_in c.args.asked.now) c.requires.named in
    error_kept c.from_residual-in_err-agrees.result c.in_err-agrees.field-0.0 c.from_residual-in_err-agrees.ensures.1
    ∙ spread_impossible c.args.file.now H c.args.variable.now ps c.in_err-agrees.field-0.0 (c.in_ok-not_resolved.ensures net parts.0 parts.1)
    (c.in_err-agrees.ensures net c.requires.known parts.2)

pub returns-clause-refusal : goal.returns-clause-refusal
returns-clause-refusal c =
    let net = c.args.file.now.net in let H = c.args.journal.now.history in let ps = c.args.condition.now in
    let parts = spread_parts net c.args.variable.now ps (spread_in c.args.asked.now) c.requires.named in
    last_refusal _ _ _ _ _ (sym (c.in_ok-not_resolved.ensures net parts.0 parts.1)) (sym (c.in_ok-agrees.ensures net c.requires.known parts.2))
    (spread_is_homeless c.args.file.now H c.args.variable.now ps (spread_in c.args.asked.now) c.requires.named)
    (c.home_in.ensures.refusal ∙ ap (λ (event : List Pair). fault_if
    (is_none (home c.args.file.now.tree event)) Wide) c.event_of.ensures.pairs)

pub returns-clause-question : goal.returns-clause-question
returns-clause-question c =
    let net = c.args.file.now.net in let H = c.args.journal.now.history in let ps = c.args.condition.now in let asked = c.args.asked.now in
    let parts = spread_parts net c.args.variable.now ps (spread_in asked) c.requires.named in
    where_ok c.home_in.result (λ held. can_answer_spread c.args.file.now H c.args.variable.now ps
    (spread_in asked) c.requires.named
    (front_apart asked.condition _ c.event_of.ensures.event.apart) asked.apart
    (sym (c.in_ok-not_resolved.ensures net parts.0 parts.1))
    (sym (c.in_ok-agrees.ensures net c.requires.known parts.2))
    (sym (c.home_in.ensures.refusal ∙ ap (λ (event : List Pair). fault_if
    (is_none (home c.args.file.now.tree event)) Wide) c.event_of.ensures.pairs) ∙ held))

pub returns-clause-home : goal.returns-clause-home
returns-clause-home c =
    subst (λ (event : List Pair). IfOk c.home_in.result
    (λ found. home c.args.file.now.tree event ≡ Some found)) c.event_of.ensures.pairs
    c.home_in.ensures.home
