use Rattle.std.specs.Prelude.{◌≡◌, ℕ, List, None}
use Rattle.std.proofs.Common.{refl, sym, ap, ◌∙◌, subst}
use Rattle.arrayvec.specs.ArrayVec.{ArrayVec}
use Rattle.mk_net.specs.Asked.{TradeRatio}
use Rattle.mk_net.specs.Trades.{trade_ratio}
use Rattle.mk_net.specs.declared.words.PairText.{PairText}
use Rattle.mk_spread.specs.Spreads.{spread_ratio}
use Rattle.mk_states.specs.OfNetwork.{IsRatioOf}
use Rattle.mk_quote.specs.Questions.{spread_in}
use Rattle.mk_command.specs.declared.command.Command.TheVariants.{Spread}
use Rattle.mk_net.specs.Firsts.{first_of}
use Rattle.mk_file.specs.MarketOf.{market_of}
use Rattle.mk_rules.specs.Refusals.{refusals_by_record}
use Rattle.mk_asking.specs.Quoting.{CanBeMade}
use Rattle.mk_market.proofs.Trades.{can_be_made, trade_kept, traded_by}
use Rattle.mk_market.proofs.TradesBack.{spread_fits, spread_ratio_fits, spread_unsettled}
use Rattle.mk_market.proofs.TradesBack.{spread_units, spread_next}
use Rattle.mk_market.proofs.market.Market.restore_spread.Given.{Over}
use Rattle.mk_market.proofs.market.Market.restore_spread.Goals.{After-ratio_of_spread-ratio}
use Rattle.mk_market.proofs.market.Market.restore_spread.Goals as goal

-- the wish in lists of their own, of which nothing is refused, and the ratio of the factors
module _ (g : Over) (c : After-ratio_of_spread-ratio g) where
  abbrev pairs : ArrayVec PairText
  pairs = record { items = c.args.wish.now.condition.now }

  abbrev shares : ArrayVec ℕ
  shares = record { items = c.args.wish.now.to.now }

  none :
      let i = c.self.inside in let wish = c.args.wish.now in
      None ≡ first_of (refusals_by_record (market_of i.file) i.journal.history
      (Spread c.args.name.now wish.variable.now pairs shares wish.at))
  none = c.in_ok-request.ensures.refusal pairs shares refl refl

  same_ratio : trade_ratio c.ratio_of_spread-ratio.result
      ≡ spread_ratio (spread_in c.in_ok-request.request.question) c.in-Some.factors.now.items
  same_ratio =
      c.ratio_of_spread-ratio.ensures
      ∙ ap (λ (Fs : List ℕ). spread_ratio (spread_in c.in_ok-request.request.question) Fs)
      c.as_slice.ensures.value

  fits : IsRatioOf c.self.inside.file.net
      (spread_ratio (spread_in c.in_ok-request.request.question) c.in-Some.factors.now.items)
  fits =
      let i = c.self.inside in
      let found = c.in_ok-request in
      let wish = c.args.wish.now in
      spread_ratio_fits i.file i.journal c.args.name.now found.request.user found.ensures.user
      wish.variable.now pairs (spread_in found.request.question) found.ensures.question shares
      wish.at none c.in-Some.factors.now c.args.reply.now c.in-Some.ensures.some
      c.in-Some.ensures.one_each c.requires.told

pub trade-requires : goal.trade-requires
trade-requires g c =
    let i = c.self.inside in
    let found = c.in_ok-request in
    let made = (goal.at.trade-requires g c).After-ratio_of_spread-ratio in
    subst (λ (r : TradeRatio). CanBeMade g.P.Engine.stands_for g.A.Engine.stands_for i.prices
    i.users i.journal found.request.user found.request.home r)
    (sym (same_ratio g made))
    (can_be_made g.P.Engine.stands_for g.A.Engine.stands_for g.A.Engine.plan_for i.file i.prices
    i.rows i.plan i.users i.ledger i.journal i.payments i.till c.self.invariant found.request.user
    found.ensures.user.within (spread_ratio (spread_in found.request.question)
    c.in-Some.factors.now.items) i.prices i.users
    (λ m stands. stands) c.self.invariant.held refl (fits g made)
    found.request.home found.ensures.home found.ensures.room)

pub invariant_of-self : goal.invariant_of-self
invariant_of-self g c =
    let i = c.self.inside in
    let found = c.in_ok-request in
    let wish = c.args.wish.now in
    let spread = spread_in found.request.question in
    let factors = c.in-Some.factors.now in
    let told = c.in-Some.ensures.some in
    let made = (goal.at.invariant_of-self g c).After-ratio_of_spread-ratio in
    let history = traded_by i.journal.history found.request.user c.trade.ensures.history
    (same_ratio g made) in
    trade_kept g.P.Engine.stands_for g.A.Engine.stands_for g.A.Engine.plan_for i.file i.prices
    i.rows i.plan i.users i.ledger i.journal i.payments i.till c.self.invariant found.request.user
    found.ensures.user.within (trade_ratio c.ratio_of_spread-ratio.result)
    (Spread c.args.name.now wish.variable.now (pairs g made) (shares g made) wish.at)
    c.args.reply.now tt tt
    (spread_units i.file i.journal c.args.name.now found.request.user found.ensures.user
    wish.variable.now (pairs g made) spread found.ensures.question (shares g made) wish.at
    (none g made) factors
    c.args.reply.now told c.in-Some.ensures.one_each c.requires.told)
    (spread_unsettled i.file i.journal c.args.name.now found.request.user found.ensures.user
    wish.variable.now (pairs g made) spread found.ensures.question (shares g made) wish.at
    (none g made) factors
    c.args.reply.now told c.in-Some.ensures.one_each)
    c.trade.new.users c.trade.new.journal
    (spread_fits i.file i.journal c.args.name.now found.request.user found.ensures.user
    wish.variable.now (pairs g made) spread found.ensures.question (shares g made) wish.at
    (none g made) factors
    c.args.reply.now told c.in-Some.ensures.one_each)
    (spread_next i.file i.journal c.args.name.now found.request.user found.ensures.user
    wish.variable.now (pairs g made) spread found.ensures.question (shares g made) wish.at
    (none g made) factors
    c.args.reply.now told c.in-Some.ensures.one_each
    i.users c.trade.new.users c.trade.new.journal history c.trade.ensures.quotes)
    c.trade.ensures.history c.trade.ensures.quotes
    c.trade.new.prices c.trade.ensures.limits c.trade.ensures.prices c.trade.ensures.names
    (c.trade.ensures.held i.file.net i.file.tree c.self.invariant.held)
