use Rattle.std.proofs.Common.{sym, subst, arith}
use Rattle.mk_net.specs.Asked.{ratio_pairs}
use Rattle.mk_net.specs.Trades.{trade_ratio}
use Rattle.mk_exact.specs.History.{Trade}
use Rattle.mk_beliefs.specs.Meanings.{weights_of, gains_of}
use Rattle.mk_assets.specs.Holdings.{Holds, with_first_known}
use Rattle.mk_answers.specs.Open.{holding_of}
use Rattle.mk_asking.proofs.Apart.{apart_lent}
use Rattle.mk_asking.proofs.Lent.{names_stay, quotes_stay}
use Rattle.mk_asking.proofs.Owned.{held_one}
use Rattle.mk_asking.proofs.Traded.{can_multiply, can_trade, trader_holding, others_holding}
use Rattle.mk_asking.proofs.trading.trade.Goals as goal

pub multiply-requires-clause-home : goal.multiply-requires-clause-home
multiply-requires-clause-home g c =
    let a = c.requires in
    g.met.P.Engine.home_is_place c.args.prices.now
    (weights_of a.network a.tree c.args.journal.now.history) c.args.home
    (ratio_pairs (trade_ratio c.args.ratio)) a.in_use.weights a.at_home

pub multiply-requires-clause-range : goal.multiply-requires-clause-range
multiply-requires-clause-range g c =
    let a = c.requires in
    can_multiply a.network a.tree c.args.journal.now.history a.in_use.is_open.legal c.args.user (trade_ratio c.args.ratio) a.in_range (omega (arith, a.room, a.few))
    g.P.Engine.stands_for c.args.prices.now a.in_use.weights

pub assets-requires : goal.assets-requires
assets-requires g c = c.requires.within

pub trade-requires-clause-home : goal.trade-requires-clause-home
trade-requires-clause-home g c =
    let a = c.requires in
    g.met.A.Engine.home_is_place c.assets.result.now.engine
    (with_first_known c.assets.result.now.learnt
    (gains_of a.network a.tree c.args.journal.now.history c.args.user)) c.args.home
    (ratio_pairs (trade_ratio c.args.ratio))
    (a.in_use.held c.args.user c.assets.result.now c.assets.ensures.value).stands a.at_home

pub trade-requires-clause-range : goal.trade-requires-clause-range
trade-requires-clause-range g c =
    let a = c.requires in
    can_trade a.network a.tree c.args.journal.now.history a.in_use.is_open.legal c.args.user (trade_ratio c.args.ratio) a.in_range (omega (arith, a.room, a.few))
    g.A.Engine.stands_for c.assets.result.now (a.in_use.held c.args.user c.assets.result.now c.assets.ensures.value)

pub trade-requires-2 : goal.trade-requires-2
trade-requires-2 g c = c.requires.room

pub returns-clause-limits : goal.returns-clause-limits
returns-clause-limits g c = record {
  trades = c.trade-2.ensures.limit;
  users = c.trade-2.ensures.users;
  transfers = c.trade-2.ensures.transfers;
}

pub returns-clause-held : goal.returns-clause-held
returns-clause-held g c = λ network tree held.
    let H = c.args.journal.now.history in let ratio = trade_ratio c.args.ratio in
    held_one network tree H g.A.Engine.stands_for c.args.users.now c.args.user c.assets.result.now c.trade.new.self (Trade c.args.user ratio) c.assets.ensures.value held
    (subst (Holds g.A.Engine.stands_for c.trade.new.self) (sym (trader_holding network tree H c.args.user ratio))
    (c.trade.ensures.held (holding_of network tree H c.args.user) (held c.args.user c.assets.result.now c.assets.ensures.value)))
    (others_holding network tree H c.args.user ratio)

pub returns-clause-names : goal.returns-clause-names
returns-clause-names g c = names_stay c.args.users.now c.args.user c.trade.new.self

pub returns-clause-quotes : goal.returns-clause-quotes
returns-clause-quotes g c = quotes_stay c.args.users.now c.args.user c.trade.new.self

pub returns-clause-apart : goal.returns-clause-apart
returns-clause-apart g c = apart_lent c.args.users.now c.args.user c.trade.new.self
