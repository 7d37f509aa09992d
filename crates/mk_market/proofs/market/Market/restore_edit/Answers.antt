use Rattle.std.proofs.Common.{refl, sym, subst}
use Rattle.mk_net.specs.Asked.{TradeRatio}
use Rattle.mk_net.specs.Trades.{trade_ratio}
use Rattle.mk_exact.specs.Sides.{ratio_in}
use Rattle.mk_file.specs.MarketOf.{market_of}
use Rattle.mk_command.specs.declared.command.Command.TheVariants.{Edit}
use Rattle.mk_reply.specs.Replies.{IsReply}
use Rattle.mk_rules.proofs.Traded.{ratio_fits}
use Rattle.mk_market.specs.inner.Keeping.{standing_of}
use Rattle.mk_asking.specs.Quoting.{CanBeMade}
use Rattle.mk_market.proofs.Replies.{nothing_added}
use Rattle.mk_market.proofs.TakenBack.{left_by_reply, left_by_refusal, tried_unfit}
use Rattle.mk_asking.proofs.Traded.{home_of_ratio}
use Rattle.mk_market.proofs.Trades.{can_be_made, trade_kept, traded_by}
use Rattle.mk_market.proofs.TradesBack.{edit_fits, edit_unsettled, edit_units, edit_paid, edit_next}
use Rattle.mk_market.proofs.market.Market.restore_edit.Goals as goal

pub returns-in_default : goal.returns-in_default
returns-in_default g c =
    let wish = c.args.wish.now in
    rw (← c.self.view_is) (left_by_reply _
    (Edit c.args.name.now wish.question.now wish.to wish.at) c.args.reply.now
    c.in_default.ensures.none)

pub returns-in_err-request : goal.returns-in_err-request
returns-in_err-request g c =
    let wish = c.args.wish.now in
    let command = Edit c.args.name.now wish.question.now wish.to wish.at in
    rw (← c.self.view_is) (tried_unfit _ _ command c.args.reply.now c.from_residual.result
    c.from_residual.ensures.1
    (left_by_refusal _ command c.args.reply.now c.in_err-request.field-0.0
    c.in_err-request.ensures.refusal))

pub trade-requires : goal.trade-requires
trade-requires g c =
    let i = c.self.inside in
    let found = c.in_ok-request in
    let units = c.in-Some.units in
    let are = subst IsReply c.in-Some.ensures.some c.requires in
    subst (λ (r : TradeRatio). CanBeMade g.P.Engine.stands_for g.A.Engine.stands_for i.prices
    i.users i.journal found.request.user found.request.home r)
    (sym c.ratio_of_edit-ratio.ensures)
    (can_be_made g.P.Engine.stands_for g.A.Engine.stands_for g.A.Engine.plan_for i.file i.prices
    i.rows i.plan i.users i.ledger i.journal i.payments i.till c.self.invariant found.request.user
    found.ensures.user.within
    (ratio_in i.file.net found.request.question (units.0) (units.1)) i.prices i.users
    (λ m stands. stands) c.self.invariant.held refl
    (ratio_fits i.file.net found.request.question (units.0) (units.1)
    found.ensures.question.answered.in_order.in_range are.0.positive are.1.positive)
    found.request.home (home_of_ratio i.file.net i.file.tree found.request.question
    found.request.home found.ensures.home (units.0) (units.1)) found.ensures.room.few)

pub invariant_of-self : goal.invariant_of-self
invariant_of-self g c =
    let i = c.self.inside in
    let found = c.in_ok-request in
    let wish = c.args.wish.now in
    let units = c.in-Some.units in
    let told = c.in-Some.ensures.some in
    let history = traded_by i.journal.history found.request.user c.trade.ensures.history
    c.ratio_of_edit-ratio.ensures in
    trade_kept g.P.Engine.stands_for g.A.Engine.stands_for g.A.Engine.plan_for i.file i.prices
    i.rows i.plan i.users i.ledger i.journal i.payments i.till c.self.invariant found.request.user
    found.ensures.user.within (trade_ratio c.ratio_of_edit-ratio.result)
    (Edit c.args.name.now wish.question.now wish.to wish.at) c.args.reply.now tt tt
    (edit_units i.file i.journal c.args.name.now found.request.user found.ensures.user
    wish.question.now found.request.question found.ensures.question wish.to wish.at
    found.ensures.refusal (units.0) (units.1) c.args.reply.now told c.requires)
    (edit_unsettled i.file i.journal c.args.name.now found.request.user found.ensures.user
    wish.question.now found.request.question found.ensures.question wish.to wish.at
    found.ensures.refusal (units.0) (units.1) c.args.reply.now told)
    c.trade.new.users c.trade.new.journal
    (edit_fits i.file i.journal c.args.name.now found.request.user found.ensures.user
    wish.question.now found.request.question found.ensures.question wish.to wish.at
    found.ensures.refusal (units.0) (units.1) c.args.reply.now told)
    (edit_next i.file i.journal c.args.name.now found.request.user found.ensures.user
    wish.question.now found.request.question found.ensures.question wish.to wish.at
    found.ensures.refusal (units.0) (units.1) c.args.reply.now told i.users c.trade.new.users
    c.trade.new.journal history c.trade.ensures.quotes)
    c.trade.ensures.history c.trade.ensures.quotes
    c.trade.new.prices c.trade.ensures.limits c.trade.ensures.prices c.trade.ensures.names
    (c.trade.ensures.held i.file.net i.file.tree c.self.invariant.held)

pub returns : goal.returns
returns g c =
    let i = c.self.inside in
    let found = c.in_ok-request in
    let wish = c.args.wish.now in
    let units = c.in-Some.units in
    let told = c.in-Some.ensures.some in
    rw (← c.self.view_is) (record {
      market = nothing_added (market_of i.file) (standing_of i.journal i.users)
          (Edit c.args.name.now wish.question.now wish.to wish.at) c.args.reply.now tt;
      fits = edit_fits i.file i.journal c.args.name.now found.request.user found.ensures.user
          wish.question.now found.request.question found.ensures.question wish.to wish.at
          found.ensures.refusal (units.0) (units.1) c.args.reply.now told;
      next = edit_next i.file i.journal c.args.name.now found.request.user found.ensures.user
          wish.question.now found.request.question found.ensures.question wish.to wish.at
          found.ensures.refusal (units.0) (units.1) c.args.reply.now told i.users c.trade.new.users
          c.trade.new.journal (traded_by i.journal.history found.request.user
          c.trade.ensures.history c.ratio_of_edit-ratio.ensures) c.trade.ensures.quotes;
      paid = edit_paid i.file i.journal c.args.name.now found.request.user found.ensures.user
          wish.question.now found.request.question found.ensures.question wish.to wish.at
          found.ensures.refusal (units.0) (units.1) c.args.reply.now told i.ledger.accounts;
    })
