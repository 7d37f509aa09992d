use Rattle.std.proofs.Common.{List, refl, sym, subst, ◌∙◌}
use Rattle.mk_net.specs.declared.words.PairText.{PairText}
use Rattle.mk_command.specs.declared.command.Command.TheVariants.{Bounds as BoundsCommand}
use Rattle.mk_quote.specs.Questions.{spread_in}
use Rattle.mk_record.specs.declared.last_quote.LastQuote.TheVariants.{Bounds}
use Rattle.mk_asking.specs.declared.possible.Stopped.TheVariants.{Decided}
use Rattle.mk_asking.specs.Stopped.{IsRefusedFor}
use Rattle.mk_market.proofs.Apart.{each_owns}
use Rattle.mk_market.proofs.Growing.{open_by}
use Rattle.mk_market.proofs.Quotes.{IsSet, quoted_kept, quote_set}
use Rattle.mk_market.proofs.Refiled.{refiled}
use Rattle.mk_market.proofs.Replies.{answered_by_record}
use Rattle.mk_asking.proofs.SpreadQuotes.{kept_quote}
use Rattle.mk_market.proofs.Spreads.{question_for, bounds_answered}
use Rattle.mk_market.proofs.StoppedSpreads.{kept_beside, can_refuse, bounds_known, decided_answered, bounds_unrefused}
use Rattle.mk_market.proofs.market.Market.bounds.Given.{Over}
use Rattle.mk_market.proofs.market.Market.bounds.Goals.{After-revision}
use Rattle.mk_market.proofs.market.Market.bounds.Goals as goal

pub returns-in_err-request : goal.returns-in_err-request
returns-in_err-request g c =
    answered_by_record _ c.args.self.now _ c.self.view_is (each_owns _ _ c.self.invariant.named)
    (BoundsCommand c.args.name.now c.args.variable.now c.args.condition.now) tt
    c.in_err-request.field-0.0 c.from_residual.result c.from_residual.ensures.1
    (c.in_err-request.ensures.refusal c.args.condition.now (sym c.as_slice.ensures.value))

pub refuse_stopped-requires : goal.refuse_stopped-requires
refuse_stopped-requires g c =
    let i = c.self.inside in
    let found = c.in_ok-request in
    let spread = spread_in found.request.question in
    let question = question_for i.file i.journal.history c.args.variable.now c.as_slice.result.now c.args.condition.now spread c.as_slice.ensures.value found.ensures.question in
    let none = found.ensures.refusal c.args.condition.now (sym c.as_slice.ensures.value) in
    can_refuse g.P.Engine.stands_for g.A.Engine.stands_for g.A.Engine.plan_for i.file i.prices i.rows i.plan i.users i.ledger i.journal i.payments i.till c.self.invariant
    c.fresh_spread_quote.new.prices c.fresh_spread_quote.new.users c.args.name.now
    found.request.user found.ensures.user c.args.variable.now c.args.condition.now spread
    question
    found.request refl found.ensures.home c.as_slice-in-Err.result.now
    c.as_slice-in-Err.ensures.value
    (bounds_known g.P.Engine.stands_for g.A.Engine.stands_for g.A.Engine.plan_for i.file i.prices i.rows i.plan i.users i.ledger i.journal i.payments i.till c.self.invariant
    c.fresh_spread_quote.new.prices c.fresh_spread_quote.new.users c.args.name.now
    found.request.user found.ensures.user c.args.variable.now c.args.condition.now spread
    question none)
    c.in-Err.ensures.prices (Decided c.in-Err.why) c.in-Err.ensures.quote

pub invariant_of-self : goal.invariant_of-self
invariant_of-self g c =
    let i = c.self.inside in
    refiled _ _ _ _ _ _ _ _ _ _ _ _ g.P.Engine.stands_for g.A.Engine.stands_for g.A.Engine.plan_for _ _ _ _ _ _ _ _
    (kept_beside g.P.Engine.stands_for g.A.Engine.stands_for g.A.Engine.plan_for i.file i.prices i.rows i.plan i.users i.ledger i.journal i.payments i.till c.self.invariant
    c.refuse_stopped.new.prices c.fresh_spread_quote.new.users
    (record { prices_beside = λ m stands. c.refuse_stopped.ensures.kept m (c.in-Err.ensures.prices m stands); names_beside = c.in-Err.ensures.names; held_beside = c.in-Err.ensures.held })
    c.in-Err.ensures.quotes)

pub returns-in-Err : goal.returns-in-Err
returns-in-Err g c =
    let i = c.self.inside in
    let found = c.in_ok-request in
    let spread = spread_in found.request.question in
    let H = i.journal.history in
    let question = question_for i.file H c.args.variable.now c.as_slice.result.now c.args.condition.now spread c.as_slice.ensures.value found.ensures.question in
    let none = found.ensures.refusal c.args.condition.now (sym c.as_slice.ensures.value) in
    let opened = open_by c.self.invariant in
    let refused = subst (λ (words : List PairText). IsRefusedFor i.file.net H c.args.variable.now words spread (Decided c.in-Err.why) c.refuse_stopped.result) c.as_slice-in-Err.ensures.value
    (c.refuse_stopped.ensures.refusal i.file.tree H (c.in-Err.ensures.prices _ c.self.invariant.prices_stand) opened c.in-Err.ensures.quote) in
    rw (← c.self.view_is)
    (decided_answered g.P.Engine.stands_for g.A.Engine.stands_for g.A.Engine.plan_for i.file i.prices i.rows i.plan i.users i.ledger i.journal i.payments i.till c.self.invariant
    c.refuse_stopped.new.prices c.fresh_spread_quote.new.users c.args.name.now found.request.user
    found.ensures.user c.args.variable.now c.args.condition.now spread question
    c.in-Err.why c.refuse_stopped.result none c.in-Err.ensures.quote refused c.in-Err.ensures.quotes
    (record { named = c.in-Err.ensures.names ∙ c.self.invariant.named; apart = c.in-Err.ensures.apart }))

-- the quote was set
quoted_so : (g : Over) (c : After-revision g) →
    let i = c.self.inside in IsSet g.A.Engine.stands_for i.file i.journal i.users
    c.set_quote.new.self c.in_ok-request.request.user (Bounds c.in-Ok.quote)
quoted_so g c =
    let made = c.in-Ok.ensures in
    quote_set c.self.invariant c.fresh_spread_quote.new.users c.set_quote.new.self
    c.in_ok-request.request.user (Bounds c.in-Ok.quote) c.in_ok-request.ensures.user.within
    made.names made.quotes made.held made.apart c.set_quote.ensures

pub invariant_of-self-2 : goal.invariant_of-self-2
invariant_of-self-2 g c =
    let i = c.self.inside in
    let user = c.in_ok-request.request.user in
    let quote = c.in-Ok.quote in
    quoted_kept c.self.invariant user (Bounds quote)
    (kept_quote i.file.net i.file.tree i.journal.history user _ quote c.in-Ok.ensures.quote)
    (quoted_so g (goal.at.invariant_of-self-2 g c).After-revision).0 c.in-Ok.ensures.prices

pub returns : goal.returns
returns g c =
    let i = c.self.inside in
    let found = c.in_ok-request in
    let made = c.fresh_spread_quote in
    let quote = c.in-Ok.quote in
    let its = c.in-Ok.ensures.quote in
    let are = quoted_so g (goal.at.returns g c).After-revision in
    let question = question_for i.file i.journal.history c.args.variable.now c.as_slice.result.now c.args.condition.now _ c.as_slice.ensures.value found.ensures.question in
    let none = bounds_unrefused g.P.Engine.stands_for g.A.Engine.stands_for g.A.Engine.plan_for i.file i.prices i.rows i.plan i.users i.ledger i.journal i.payments i.till c.self.invariant
    made.new.prices made.new.users c.args.name.now found.request.user found.ensures.user
    c.args.variable.now c.args.condition.now _ question quote its
    (found.ensures.refusal c.args.condition.now (sym c.as_slice.ensures.value)) in
    rw (← c.self.view_is)
    (bounds_answered g.P.Engine.stands_for g.A.Engine.stands_for g.A.Engine.plan_for i.file i.prices i.rows i.plan i.users c.set_quote.new.self i.ledger i.journal i.payments i.till
    c.self.invariant c.args.name.now found.request.user found.ensures.user c.args.variable.now
    c.args.condition.now _ question quote its are.0.quotes are.1
    c.intervals-intervals.result c.revision.result none c.intervals-intervals.ensures.value
    c.intervals-intervals.ensures.right c.revision.ensures)
