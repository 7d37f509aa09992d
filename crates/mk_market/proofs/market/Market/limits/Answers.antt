use Rattle.std.proofs.Common.{◌∙◌}
use Rattle.mk_command.specs.declared.command.Command.TheVariants.{Limits as Ask}
use Rattle.mk_record.specs.declared.last_quote.LastQuote.TheVariants.{Limits}
use Rattle.mk_market.proofs.Apart.{each_owns}
use Rattle.mk_market.proofs.Replies.{answered_by_record}
use Rattle.mk_market.proofs.Stopping.{limits_known, limits_unrefused, limits_stopped}
use Rattle.mk_market.proofs.Growing.{open_by}
use Rattle.mk_beliefs.specs.Meanings.{weights_of}
use Rattle.mk_market.proofs.Edited.{left_by_quote, kept_quote, limits_answered}
use Rattle.mk_market.proofs.Quotes.{IsSet, kept_asked, quoted_kept, quote_set}
use Rattle.mk_market.proofs.market.Market.limits.Given.{Over}
use Rattle.mk_market.proofs.market.Market.limits.Goals.{After-revision}
use Rattle.mk_market.proofs.market.Market.limits.Goals as goal

pub returns-in_err-request : goal.returns-in_err-request
returns-in_err-request g c =
    answered_by_record _ c.args.self.now _ c.self.view_is (each_owns _ _ c.self.invariant.named)
    (Ask c.args.name.now c.args.question.now) tt
    c.in_err-request.field-0.0 c.from_residual.result c.from_residual.ensures.1
    c.in_err-request.ensures.refusal

pub invariant_of-self : goal.invariant_of-self
invariant_of-self g c =
    kept_asked c.self.invariant (λ m stands. c.refuse_decided.ensures.kept m
    (c.fresh_quote.ensures.prices m stands))
    c.fresh_quote.ensures.names c.fresh_quote.ensures.quotes c.fresh_quote.ensures.held

pub returns-in-Err : goal.returns-in-Err
returns-in-Err g c =
    let i = c.self.inside in
    let found = c.in_ok-request in
    let made = c.fresh_quote in
    rw (← c.self.view_is)
    (limits_stopped i.file i.ledger i.journal i.users made.new.users made.ensures.quotes
    (made.ensures.names ∙ c.self.invariant.named)
    c.args.name.now found.request.user found.ensures.user made.ensures.apart c.args.question.now c.refuse_decided.result found.ensures.refusal
    (c.refuse_decided.ensures.refusal i.file.net i.file.tree i.journal.history (made.ensures.prices (weights_of i.file.net i.file.tree i.journal.history) c.self.invariant.prices_stand)
    (open_by c.self.invariant)
    (record { named = found.ensures.question.named; known = limits_known i.file i.journal.history c.args.name.now c.args.question.now found.ensures.refusal }) c.in-Err.ensures.quote))

-- the quote was set
quoted_so : (g : Over) (c : After-revision g) →
    let i = c.self.inside in IsSet g.A.Engine.stands_for i.file i.journal i.users
    c.set_quote.new.self c.in_ok-request.request.user (Limits c.in-Ok.quote)
quoted_so g c =
    let made = c.fresh_quote in
    quote_set c.self.invariant made.new.users c.set_quote.new.self c.in_ok-request.request.user
    (Limits c.in-Ok.quote) c.in_ok-request.ensures.user.within made.ensures.names
    made.ensures.quotes made.ensures.held made.ensures.apart c.set_quote.ensures

pub invariant_of-self-2 : goal.invariant_of-self-2
invariant_of-self-2 g c =
    let i = c.self.inside in
    let request = c.in_ok-request.request in
    let ok = c.in-Ok in
    quoted_kept c.self.invariant request.user (Limits ok.quote)
    (kept_quote i.file.net i.file.tree i.journal.history request.user request.question ok.quote
    ok.ensures.quote) (quoted_so g (goal.at.invariant_of-self-2 g c).After-revision).0
    c.fresh_quote.ensures.prices

pub returns : goal.returns
returns g c =
    let i = c.self.inside in
    let found = c.in_ok-request in
    let ok = c.in-Ok in
    let are = quoted_so g (goal.at.returns g c).After-revision in
    let none = limits_unrefused i.file i.journal.history c.args.name.now c.args.question.now
    found.request.question found.ensures.question.named
    (left_by_quote i.file.net i.file.tree i.journal.history found.request.user
    found.request.question ok.quote ok.ensures.quote) found.ensures.refusal in
    rw (← c.self.view_is)
    (limits_answered g.P.Engine.stands_for g.A.Engine.stands_for g.A.Engine.plan_for i.file i.prices i.rows i.plan i.users c.set_quote.new.self i.ledger i.journal i.payments i.till
    c.self.invariant c.args.name.now found.request.user found.ensures.user c.args.question.now
    found.request.question found.ensures.question ok.quote ok.ensures.quote are.0 are.1
    c.limits.result c.revision.result none c.limits.ensures.value c.limits.ensures.right c.revision.ensures)
