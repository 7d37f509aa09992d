use Rattle.std.proofs.Common.{sym, ap, ◌∙◌}
use Rattle.std.specs.Prelude.{is_some}
use Rattle.mk_net.specs.declared.words.Pair.{Pair}
use Rattle.mk_tree.specs.Given.{home}
use Rattle.mk_rules.specs.Refusals.{is_resolved}
use Rattle.mk_record.proofs.Refusing.{none_held, plain_unrefused, plain_answered}
use Rattle.mk_record.proofs.refusals.plain_price.Goals as goal

pub returns-clause-refusal : goal.returns-clause-refusal
returns-clause-refusal c =
    let file = c.args.file.now in let H = c.args.journal.now.history in let asked = c.in_ok-asked.asked in
    let plain = none_held c.args.question.now.condition.items (sym c.is_empty.ensures ∙ c.if-not-is_empty.false) in
    let free = ap (λ (p : Pair). is_resolved H p.variable) (sym c.target.ensures) ∙ sym c.is_resolved.ensures ∙ c.if-is_resolved.false in
    let held = ap is_some (ap (home file.tree) (sym c.event.ensures.pairs) ∙ sym
    c.in_ok-home.ensures.home) in
    plain_unrefused file H c.args.question.now asked c.in_ok-asked.ensures.named c.in_ok-asked.ensures.known plain free held (sym c.is_settled.ensures ∙ c.if-is_settled.false) c.in_ok-asked.ensures.once

pub returns-clause-question : goal.returns-clause-question
returns-clause-question c =
    let file = c.args.file.now in let H = c.args.journal.now.history in let asked = c.in_ok-asked.asked in
    let plain = none_held c.args.question.now.condition.items (sym c.is_empty.ensures ∙ c.if-not-is_empty.false) in
    let free = ap (λ (p : Pair). is_resolved H p.variable) (sym c.target.ensures) ∙ sym c.is_resolved.ensures ∙ c.if-is_resolved.false in
    let held = ap is_some (ap (home file.tree) (sym c.event.ensures.pairs) ∙ sym
    c.in_ok-home.ensures.home) in
    plain_answered file H c.args.question.now asked c.in_ok-asked.ensures.named c.in_ok-asked.ensures.known plain free held

pub returns-clause-home : goal.returns-clause-home
returns-clause-home c = ap (home c.args.file.now.tree) (sym c.event.ensures.pairs) ∙ sym
    c.in_ok-home.ensures.home
