use Rattle.std.specs.Prelude.{◌≡◌, Some, None, slice_get}
use Rattle.std.proofs.Common.{sym, ◌∙◌, subst}
use Rattle.mk_net.specs.Asked.{TradeRatio}
use Rattle.mk_net.specs.Trades.{trade_ratio}
use Rattle.mk_exact.specs.History.{revision}
use Rattle.mk_exact.specs.Sides.{ratio_in}
use Rattle.mk_command.specs.declared.command.Command.TheVariants.{Edit}
use Rattle.mk_reply.specs.declared.reply.Reply.TheVariants.{Traded}
use Rattle.mk_quote.specs.declared.quote.Quote.{Quote}
use Rattle.mk_quote.specs.Quotes.{IsFor}
use Rattle.mk_rules.specs.Refusals.{first_refusal}
use Rattle.mk_rules.proofs.Traded.{ratio_fits}
use Rattle.mk_record.specs.Members.{quotes_of}
use Rattle.mk_record.specs.declared.last_quote.LastQuote.TheVariants.{Limits}
use Rattle.mk_asking.specs.Quoting.{CanBeMade}
use Rattle.mk_asking.proofs.Apart.{apart_then}
use Rattle.mk_market.proofs.Apart.{each_owns}
use Rattle.mk_market.proofs.Replies.{by_record, unsettled}
use Rattle.mk_market.proofs.Stopping.{edit_known, edit_unrefused, edit_stopped}
use Rattle.mk_file.specs.MarketOf.{market_of}
use Rattle.mk_beliefs.specs.Meanings.{weights_of}
use Rattle.mk_market.proofs.Edited.{AreUnits, left_by_quote, last_is, edit_refused_answered, kept_quote, beyond_answered, units_fit, trade_fits, trade_next, trade_answered}
use Rattle.mk_market.proofs.Growing.{open_by}
use Rattle.mk_market.proofs.Quotes.{IsSet, kept_asked, quoted_kept, quote_set}
use Rattle.mk_asking.proofs.Traded.{home_of_ratio}
use Rattle.mk_market.proofs.Trades.{can_be_made, trade_kept, traded_by}
use Rattle.mk_market.proofs.market.Market.edit.Given.{Over}
use Rattle.mk_market.proofs.market.Market.edit.Goals.{After-limits, In-Ok, In-Some}
use Rattle.mk_market.proofs.market.Market.edit.Goals as goal

pub returns-in_err-request : goal.returns-in_err-request
returns-in_err-request g c =
    edit_refused_answered _ c.args.self.now _ c.self.view_is
    (each_owns _ _ c.self.invariant.named) c.args.name.now c.args.question.now
    c.args.to c.args.at c.in_err-request.field-0.0 c.from_residual.result
    c.from_residual.ensures.1 (by_record (market_of c.self.inside.file)
    c.self.inside.journal.history (Edit c.args.name.now c.args.question.now c.args.to c.args.at)
    c.in_err-request.field-0.0 c.in_err-request.ensures.refusal)

pub invariant_of-self : goal.invariant_of-self
invariant_of-self g c =
    let made = c.present_quote.ensures in
    kept_asked c.self.invariant (λ m stands. c.refuse_decided.ensures.kept m (made.prices m stands))
    made.names made.quotes made.held

pub returns-in-Err : goal.returns-in-Err
returns-in-Err g c =
    let i = c.self.inside in
    let found = c.in_ok-request in
    let made = c.present_quote in
    rw (← c.self.view_is)
    (edit_stopped i.file i.ledger i.journal i.users made.new.users made.ensures.quotes
    (made.ensures.names ∙ c.self.invariant.named)
    c.args.name.now found.request.user found.ensures.user made.ensures.apart c.args.question.now c.args.to c.args.at c.refuse_decided.result
    found.ensures.refusal
    (c.refuse_decided.ensures.refusal i.file.net i.file.tree i.journal.history (made.ensures.prices (weights_of i.file.net i.file.tree i.journal.history) c.self.invariant.prices_stand)
    (open_by c.self.invariant)
    (record { named = found.ensures.question.named; known = edit_known i.file i.journal.history c.args.name.now c.args.question.now c.args.to c.args.at found.ensures.refusal }) c.in-Err.ensures.quote))

-- no refusal meets an edit that has a quote
none : (g : Over) (c : In-Ok g) → None ≡ first_refusal (market_of c.self.inside.file)
    c.self.inside.journal.history (Edit c.args.name.now c.args.question.now c.args.to c.args.at)
none g c =
    let i = c.self.inside in
    let found = c.in_ok-request in
    edit_unrefused i.file i.journal.history c.args.name.now c.args.question.now c.args.to
    c.args.at found.request.question found.ensures.question.named
    (left_by_quote i.file.net i.file.tree i.journal.history found.request.user
    found.request.question c.in-Ok.quote c.in-Ok.ensures.quote) found.ensures.refusal

-- and the quote is the user's last where that is of this question
last : (g : Over) (c : In-Ok g) → (held : Quote)
    → slice_get (quotes_of c.self.inside.users) c.in_ok-request.request.user ≡ Some
    (Some (Limits held))
    → IsFor held c.in_ok-request.request.question (revision c.self.inside.journal.history)
    → c.in-Ok.quote ≡ held
last g c =
    last_is c.self.inside.users c.in_ok-request.request.user c.in_ok-request.request.question
    (revision c.self.inside.journal.history) c.present_quote.result c.in-Ok.quote c.in-Ok.is
    c.present_quote.ensures.last

-- which is set where it does not take the edit
quoted_so : (g : Over) (c : After-limits g) →
    let i = c.self.inside in IsSet g.A.Engine.stands_for i.file i.journal i.users
    c.set_quote.new.self c.in_ok-request.request.user (Limits c.in-Ok.quote)
quoted_so g c =
    let made = c.present_quote.ensures in
    quote_set c.self.invariant c.present_quote.new.users c.set_quote.new.self
    c.in_ok-request.request.user (Limits c.in-Ok.quote) c.in_ok-request.ensures.user.within
    made.names made.quotes made.held made.apart c.set_quote.ensures

-- and else gives units for it
fits : (g : Over) (c : In-Some g) → AreUnits (c.in-Some.units.0) (c.in-Some.units.1)
fits g c =
    let i = c.self.inside in
    let found = c.in_ok-request in
    units_fit i.file i.journal (open_by c.self.invariant) c.args.name.now found.request.user
    found.ensures.user c.args.question.now found.request.question found.ensures.question
    c.in-Ok.quote c.in-Ok.ensures.quote c.args.to (c.in-Some.units.0) (c.in-Some.units.1)
    c.in-Some.ensures.fair

pub invariant_of-self-in_default : goal.invariant_of-self-in_default
invariant_of-self-in_default g c =
    let i = c.self.inside in
    let request = c.in_ok-request.request in
    let ok = c.in-Ok in
    quoted_kept c.self.invariant request.user (Limits ok.quote)
    (kept_quote i.file.net i.file.tree i.journal.history request.user request.question ok.quote
    ok.ensures.quote) (quoted_so g (goal.at.invariant_of-self-in_default g c).After-limits).0
    c.present_quote.ensures.prices

pub returns-in_default : goal.returns-in_default
returns-in_default g c =
    let i = c.self.inside in
    let found = c.in_ok-request in
    let ok = c.in-Ok in
    let at = goal.at.returns-in_default g c in
    let are = quoted_so g at.After-limits in
    rw (← c.self.view_is)
    (beyond_answered g.P.Engine.stands_for g.A.Engine.stands_for g.A.Engine.plan_for i.file i.prices i.rows i.plan i.users c.set_quote.new.self i.ledger i.journal i.payments i.till
    c.self.invariant c.args.name.now found.request.user found.ensures.user c.args.question.now
    found.request.question found.ensures.question ok.quote ok.ensures.quote are.0 are.1
    c.args.to c.args.at c.limits.result (none g at.In-Ok) c.limits.ensures.value
    c.limits.ensures.right c.in_default.ensures.inside (last g at.In-Ok))

pub ratio_of_edit-ratio-requires-clause-hit : goal.ratio_of_edit-ratio-requires-clause-hit
ratio_of_edit-ratio-requires-clause-hit g c =
    (fits g (goal.at.ratio_of_edit-ratio-requires-clause-hit g c).In-Some).hit_units

pub ratio_of_edit-ratio-requires-clause-miss : goal.ratio_of_edit-ratio-requires-clause-miss
ratio_of_edit-ratio-requires-clause-miss g c =
    (fits g (goal.at.ratio_of_edit-ratio-requires-clause-miss g c).In-Some).miss_units

pub trade-requires : goal.trade-requires
trade-requires g c =
    let i = c.self.inside in
    let found = c.in_ok-request in
    let made = c.present_quote in
    let units = c.in-Some.units in
    let fits = fits g (goal.at.trade-requires g c).In-Some in
    subst (λ (r : TradeRatio). CanBeMade g.P.Engine.stands_for g.A.Engine.stands_for made.new.prices
    made.new.users i.journal found.request.user found.request.home r)
    (sym c.ratio_of_edit-ratio.ensures)
    (can_be_made g.P.Engine.stands_for g.A.Engine.stands_for g.A.Engine.plan_for i.file i.prices
    i.rows i.plan i.users i.ledger i.journal i.payments i.till c.self.invariant found.request.user
    found.ensures.user.within
    (ratio_in i.file.net found.request.question (units.0) (units.1)) made.new.prices made.new.users
    made.ensures.prices made.ensures.held made.ensures.names
    (ratio_fits i.file.net found.request.question (units.0) (units.1)
    found.ensures.question.answered.in_order.in_range fits.hit_units.positive
    fits.miss_units.positive)
    found.request.home (home_of_ratio i.file.net i.file.tree found.request.question
    found.request.home found.ensures.home (units.0) (units.1)) found.ensures.room.few)

pub invariant_of-self-2 : goal.invariant_of-self-2
invariant_of-self-2 g c =
    let i = c.self.inside in
    let found = c.in_ok-request in
    let made = c.present_quote in
    let ok = c.in-Ok in
    let at = goal.at.invariant_of-self-2 g c in
    let none = none g at.In-Ok in
    let last = last g at.In-Ok in
    let history = traded_by i.journal.history found.request.user c.trade.ensures.history
    c.ratio_of_edit-ratio.ensures in
    let opened = open_by c.self.invariant in
    trade_kept g.P.Engine.stands_for g.A.Engine.stands_for g.A.Engine.plan_for i.file i.prices
    i.rows i.plan i.users i.ledger i.journal i.payments i.till c.self.invariant found.request.user
    found.ensures.user.within
    (trade_ratio c.ratio_of_edit-ratio.result)
    (Edit c.args.name.now c.args.question.now c.args.to c.args.at)
    (Traded (c.in-Some.units.0) (c.in-Some.units.1) c.revision.result) tt tt
    (fits g at.In-Some).ratios
    (unsettled (market_of i.file) i.journal.history
    (Edit c.args.name.now c.args.question.now c.args.to c.args.at) none)
    c.trade.new.users c.trade.new.journal
    (trade_fits i.file i.journal opened c.args.name.now found.request.user found.ensures.user
    c.args.question.now found.request.question found.ensures.question ok.quote ok.ensures.quote
    c.args.to (c.in-Some.units.0) (c.in-Some.units.1) c.in-Some.ensures.fair i.users c.trade.new.users c.trade.new.journal c.args.at none c.in-Some.ensures.inside last
    history (c.trade.ensures.quotes ∙ made.ensures.quotes) c.revision.result c.revision.ensures)
    (trade_next i.file i.journal opened c.args.name.now found.request.user found.ensures.user
    c.args.question.now found.request.question found.ensures.question ok.quote ok.ensures.quote
    c.args.to (c.in-Some.units.0) (c.in-Some.units.1) c.in-Some.ensures.fair i.users c.trade.new.users c.trade.new.journal c.args.at none c.in-Some.ensures.inside last
    history (c.trade.ensures.quotes ∙ made.ensures.quotes) c.revision.result c.revision.ensures)
    c.trade.ensures.history (c.trade.ensures.quotes ∙ made.ensures.quotes)
    c.trade.new.prices c.trade.ensures.limits (λ m stands. c.trade.ensures.prices m (made.ensures.prices m stands)) (c.trade.ensures.names ∙ made.ensures.names)
    (c.trade.ensures.held i.file.net i.file.tree made.ensures.held)

pub returns : goal.returns
returns g c =
    let i = c.self.inside in
    let found = c.in_ok-request in
    let made = c.present_quote in
    let ok = c.in-Ok in
    let at = goal.at.returns g c in
    rw (← c.self.view_is)
    (trade_answered i.file i.journal (open_by c.self.invariant) c.args.name.now found.request.user
    found.ensures.user
    c.args.question.now found.request.question found.ensures.question ok.quote ok.ensures.quote
    c.args.to (c.in-Some.units.0) (c.in-Some.units.1) c.in-Some.ensures.fair i.users
    c.trade.new.users c.trade.new.journal c.args.at (none g at.In-Ok) c.in-Some.ensures.inside
    (last g at.In-Ok)
    (traded_by i.journal.history found.request.user c.trade.ensures.history
    c.ratio_of_edit-ratio.ensures)
    (c.trade.ensures.quotes ∙ made.ensures.quotes) c.revision.result c.revision.ensures i.ledger
    (record {
      named = c.trade.ensures.names ∙ made.ensures.names ∙ c.self.invariant.named;
      apart = apart_then found.request.user i.users made.new.users c.trade.new.users
          made.ensures.apart c.trade.ensures.apart;
    }))
