use Rattle.std.specs.Prelude.{◌≡◌, ℕ, List, All, length, slice_index, None}
use Rattle.std.proofs.Common.{refl, sym, ap, ◌∙◌, subst}
use Rattle.mk_net.specs.Asked.{TradeRatio, IsUnits}
use Rattle.mk_net.specs.Network.{sizes}
use Rattle.mk_net.specs.Trades.{trade_ratio}
use Rattle.mk_net.specs.declared.words.PairText.{PairText}
use Rattle.mk_spread.specs.Laws.{AreOfValues}
use Rattle.mk_spread.specs.Spreads.{spread_ratio}
use Rattle.mk_file.specs.MarketOf.{market_of}
use Rattle.mk_command.specs.declared.command.Command.TheVariants.{Spread}
use Rattle.mk_quote.specs.Questions.{spread_in}
use Rattle.mk_reply.specs.declared.reply.Reply.TheVariants.{Spreaded}
use Rattle.mk_record.specs.Members.{quotes_of}
use Rattle.mk_rules.specs.Refusals.{first_refusal}
use Rattle.mk_asking.specs.Quoting.{IsTaken, IsTurnedDown, CanBeMade}
use Rattle.mk_asking.specs.Stopped.{IsRefusedFor, MayStop}
use Rattle.mk_asking.proofs.Apart.{apart_then}
use Rattle.mk_market.proofs.Apart.{each_owns}
use Rattle.mk_market.proofs.Growing.{open_by}
use Rattle.mk_market.proofs.Refiled.{refiled}
use Rattle.mk_market.proofs.Replies.{by_record, unsettled}
use Rattle.mk_market.proofs.Spreads.{IsSpreadFound, AreFactors, spread_refused_answered, question_for}
use Rattle.mk_market.proofs.Spreads.{factors_fit, spread_trade_fits, spread_trade_next}
use Rattle.mk_market.proofs.Spreads.{spread_trade_answered}
use Rattle.mk_asking.proofs.StoppedSpreads.{turned_may_stop}
use Rattle.mk_market.proofs.StoppedSpreads.{can_refuse, spread_known, one_share_each, spread_unrefused, stopped_answered, stopped_kept}
use Rattle.mk_market.proofs.Trades.{in_use, can_be_made, trade_kept, traded_by}
use Rattle.mk_market.proofs.market.Market.spread.Given.{Over}
use Rattle.mk_market.proofs.market.Market.spread.Goals.{After-ratio_of_spread-ratio}
use Rattle.mk_market.proofs.market.Market.spread.Goals.{After-refuse_stopped, In-Err}
use Rattle.mk_market.proofs.market.Market.spread.Goals.{In-Ok, In_ok-request}
use Rattle.mk_market.proofs.market.Market.spread.Goals as goal

pub returns-in_err-request : goal.returns-in_err-request
returns-in_err-request g c =
    let command = Spread c.args.name.now c.args.variable.now c.args.condition.now c.args.to.now c.args.at in
    spread_refused_answered _ c.args.self.now _ c.self.view_is
    (each_owns _ _ c.self.invariant.named) c.args.name.now c.args.variable.now
    c.args.condition.now c.args.to.now c.args.at c.in_err-request.field-0.0
    c.from_residual.result
    c.from_residual.ensures.1
    (by_record (market_of c.self.inside.file) c.self.inside.journal.history command
    c.in_err-request.field-0.0 (c.in_err-request.ensures.refusal c.args.condition.now
    c.args.to.now (sym c.as_slice.ensures.value) (sym c.as_slice-2.ensures.value)))

pub judge_spread-requires-clause-in_use : goal.judge_spread-requires-clause-in_use
judge_spread-requires-clause-in_use g c =
    let i = c.self.inside in
    in_use g.P.Engine.stands_for g.A.Engine.stands_for g.A.Engine.plan_for i.file i.prices i.rows i.plan i.users i.ledger i.journal i.payments i.till c.self.invariant i.prices i.users
    (λ m stands. stands) c.self.invariant.held

-- the words ask a spread, and the record refuses it nothing
found_for : (g : Over) (c : In_ok-request g) →
    let i = c.self.inside in IsSpreadFound i.file i.journal.history c.args.name.now
    c.args.variable.now c.args.condition.now c.args.to.now c.args.at
    (spread_in c.in_ok-request.request.question)
found_for g c =
    let i = c.self.inside in
    let found = c.in_ok-request in
    record {
      question = question_for i.file i.journal.history c.args.variable.now c.as_slice.result.now
          c.args.condition.now (spread_in found.request.question) c.as_slice.ensures.value
          found.ensures.question;
      unrefused = found.ensures.refusal c.args.condition.now c.args.to.now
          (sym c.as_slice.ensures.value) (sym c.as_slice-2.ensures.value);
    }

-- with a share for each value
one_each : (g : Over) (c : In_ok-request g) →
    let i = c.self.inside in length c.args.to.now.items ≡ slice_index (sizes i.file.net)
    (spread_in c.in_ok-request.request.question).variable
one_each g c =
    let i = c.self.inside in
    let asks = found_for g c in
    one_share_each g.P.Engine.stands_for g.A.Engine.stands_for g.A.Engine.plan_for i.file i.prices
    i.rows i.plan i.users i.ledger i.journal i.payments i.till c.self.invariant
    i.prices i.users c.args.name.now c.in_ok-request.request.user c.in_ok-request.ensures.user
    c.args.variable.now c.args.condition.now (spread_in c.in_ok-request.request.question)
    asks.question c.args.to.now c.args.at asks.unrefused

-- what stops it
module _ (g : Over) (c : In-Err g) where
  down :
      let i = c.self.inside in
      IsTurnedDown i.file.net i.file.tree i.journal.history c.in_ok-request.request.user
      (spread_in c.in_ok-request.request.question)
      (quotes_of i.users) (quotes_of c.judge_spread.new.users) c.args.to.now.items c.in-Err.why
  down =
      let i = c.self.inside in
      subst (λ (Xs : List ℕ). IsTurnedDown i.file.net i.file.tree i.journal.history
      c.in_ok-request.request.user (spread_in c.in_ok-request.request.question)
      (quotes_of i.users) (quotes_of c.judge_spread.new.users) Xs c.in-Err.why)
      c.as_slice-3.ensures.value c.in-Err.ensures.judged

  may : length c.args.to.now.items ≡ slice_index (sizes c.self.inside.file.net)
      (spread_in c.in_ok-request.request.question).variable
      → MayStop c.self.inside.file.net c.self.inside.journal.history
      (spread_in c.in_ok-request.request.question) c.in-Err.why
  may each =
      let i = c.self.inside in
      turned_may_stop i.file.net i.file.tree i.journal.history c.in_ok-request.request.user
      (spread_in c.in_ok-request.request.question) (quotes_of i.users)
      (quotes_of c.judge_spread.new.users) c.args.to.now.items each c.in-Err.why down

-- and its refusal
refused : (g : Over) (c : After-refuse_stopped g)
    → MayStop c.self.inside.file.net c.self.inside.journal.history
    (spread_in c.in_ok-request.request.question) c.in-Err.why
    → IsRefusedFor c.self.inside.file.net c.self.inside.journal.history c.args.variable.now
    c.args.condition.now.items (spread_in c.in_ok-request.request.question) c.in-Err.why
    c.refuse_stopped.result
refused g c may =
    let i = c.self.inside in
    subst (λ (words : List PairText). IsRefusedFor i.file.net i.journal.history c.args.variable.now
    words (spread_in c.in_ok-request.request.question) c.in-Err.why c.refuse_stopped.result)
    c.as_slice-in-Err.ensures.value
    (c.refuse_stopped.ensures.refusal i.file.tree i.journal.history
    (c.in-Err.ensures.prices _ c.self.invariant.prices_stand) (open_by c.self.invariant) may)

-- or its judge takes it
module _ (g : Over) (c : In-Ok g)
    (asks : IsSpreadFound c.self.inside.file c.self.inside.journal.history c.args.name.now
    c.args.variable.now c.args.condition.now c.args.to.now c.args.at
    (spread_in c.in_ok-request.request.question)) where
  judged :
      let i = c.self.inside in
      IsTaken i.file.net i.file.tree i.journal.history c.in_ok-request.request.user
      (spread_in c.in_ok-request.request.question)
      (quotes_of i.users) (quotes_of c.judge_spread.new.users) c.args.to.now.items
      c.in-Ok.factors.items
  judged =
      let i = c.self.inside in
      subst (λ (Xs : List ℕ). IsTaken i.file.net i.file.tree i.journal.history
      c.in_ok-request.request.user (spread_in c.in_ok-request.request.question)
      (quotes_of i.users) (quotes_of c.judge_spread.new.users) Xs c.in-Ok.factors.items)
      c.as_slice-3.ensures.value c.in-Ok.ensures.judged

  -- by factors that fit
  fits : AreFactors c.self.inside.file.net (spread_in c.in_ok-request.request.question)
      c.in-Ok.factors.items
  fits =
      let i = c.self.inside in
      factors_fit i.file i.journal (open_by c.self.invariant) c.args.name.now
      c.in_ok-request.request.user c.in_ok-request.ensures.user c.args.variable.now
      c.args.condition.now (spread_in c.in_ok-request.request.question) asks.question judged.quote
      judged.judge.its c.args.to.now c.in-Ok.factors judged.is_inside.fair

  -- and no refusal meets it
  none : None ≡ first_refusal (market_of c.self.inside.file) c.self.inside.journal.history
      (Spread c.args.name.now c.args.variable.now c.args.condition.now c.args.to.now c.args.at)
  none =
      let i = c.self.inside in
      spread_unrefused g.P.Engine.stands_for g.A.Engine.stands_for g.A.Engine.plan_for i.file
      i.prices i.rows i.plan i.users i.ledger i.journal i.payments i.till c.self.invariant
      i.prices i.users c.args.name.now c.in_ok-request.request.user c.in_ok-request.ensures.user
      c.args.variable.now c.args.condition.now (spread_in c.in_ok-request.request.question)
      asks.question c.args.to.now c.args.at asks.unrefused judged.quote judged.judge.its
      judged.is_inside.inside

-- the ratio of the trade is that of the factors
same_ratio : (g : Over) (c : After-ratio_of_spread-ratio g)
    → trade_ratio c.ratio_of_spread-ratio.result ≡ spread_ratio
    (spread_in c.in_ok-request.request.question) c.in-Ok.factors.items
same_ratio g c =
    c.ratio_of_spread-ratio.ensures
    ∙ ap (λ (Fs : List ℕ). spread_ratio (spread_in c.in_ok-request.request.question) Fs)
    c.as_slice-4.ensures.value

pub judge_spread-requires-clause-one_each : goal.judge_spread-requires-clause-one_each
judge_spread-requires-clause-one_each g c =
    let at = goal.at.judge_spread-requires-clause-one_each g c in
    subst (λ (Xs : List ℕ). length Xs ≡ slice_index (sizes c.self.inside.file.net)
    (spread_in c.in_ok-request.request.question).variable) (sym c.as_slice-3.ensures.value)
    (one_each g at.In_ok-request)

pub refuse_stopped-requires : goal.refuse_stopped-requires
refuse_stopped-requires g c =
    let i = c.self.inside in
    let found = c.in_ok-request in
    let made = c.judge_spread in
    let at = goal.at.refuse_stopped-requires g c in
    let asks = found_for g at.In_ok-request in
    can_refuse g.P.Engine.stands_for g.A.Engine.stands_for g.A.Engine.plan_for i.file i.prices i.rows i.plan i.users i.ledger i.journal i.payments i.till c.self.invariant
    made.new.prices made.new.users c.args.name.now found.request.user found.ensures.user
    c.args.variable.now c.args.condition.now (spread_in found.request.question) asks.question
    found.request refl found.ensures.home c.as_slice-in-Err.result.now
    c.as_slice-in-Err.ensures.value
    (spread_known g.P.Engine.stands_for g.A.Engine.stands_for g.A.Engine.plan_for i.file i.prices i.rows i.plan i.users i.ledger i.journal i.payments i.till c.self.invariant
    made.new.prices made.new.users c.args.name.now found.request.user found.ensures.user
    c.args.variable.now c.args.condition.now (spread_in found.request.question) asks.question
    c.args.to.now c.args.at asks.unrefused)
    c.in-Err.ensures.prices c.in-Err.why (may g at.In-Err (one_each g at.In_ok-request))

pub invariant_of-self : goal.invariant_of-self
invariant_of-self g c =
    let i = c.self.inside in
    let found = c.in_ok-request in
    let at = goal.at.invariant_of-self g c in
    let asks = found_for g at.In_ok-request in
    refiled _ _ _ _ _ _ _ _ _ _ _ _ g.P.Engine.stands_for g.A.Engine.stands_for g.A.Engine.plan_for _ _ _ _ _ _ _ _
    (stopped_kept g.P.Engine.stands_for g.A.Engine.stands_for g.A.Engine.plan_for i.file i.prices i.rows i.plan i.users i.ledger i.journal i.payments i.till c.self.invariant
    c.refuse_stopped.new.prices c.judge_spread.new.users c.args.name.now found.request.user
    found.ensures.user
    c.args.variable.now c.args.condition.now (spread_in found.request.question) asks.question
    c.args.to.now c.args.at asks.unrefused
    c.in-Err.why c.refuse_stopped.result (down g at.In-Err)
    (refused g at.After-refuse_stopped (may g at.In-Err (one_each g at.In_ok-request)))
    (record { prices_beside = λ m stands. c.refuse_stopped.ensures.kept m (c.in-Err.ensures.prices m stands); names_beside = c.in-Err.ensures.names; held_beside = c.in-Err.ensures.held }))

pub returns-in-Err : goal.returns-in-Err
returns-in-Err g c =
    let i = c.self.inside in
    let found = c.in_ok-request in
    let at = goal.at.returns-in-Err g c in
    let asks = found_for g at.In_ok-request in
    rw (← c.self.view_is)
    (stopped_answered g.P.Engine.stands_for g.A.Engine.stands_for g.A.Engine.plan_for i.file i.prices i.rows i.plan i.users i.ledger i.journal i.payments i.till c.self.invariant
    c.refuse_stopped.new.prices c.judge_spread.new.users c.args.name.now found.request.user
    found.ensures.user
    c.args.variable.now c.args.condition.now (spread_in found.request.question) asks.question
    c.args.to.now c.args.at asks.unrefused
    c.in-Err.why c.refuse_stopped.result (down g at.In-Err)
    (refused g at.After-refuse_stopped (may g at.In-Err (one_each g at.In_ok-request)))
    (record { named = c.in-Err.ensures.names ∙ c.self.invariant.named; apart = c.in-Err.ensures.apart }))

pub ratio_of_spread-ratio-requires-clause-of_values : goal.ratio_of_spread-ratio-requires-clause-of_values
ratio_of_spread-ratio-requires-clause-of_values g c =
    let at = goal.at.ratio_of_spread-ratio-requires-clause-of_values g c in
    subst (λ (Fs : List ℕ). AreOfValues Fs) (sym c.as_slice-4.ensures.value)
    (fits g at.In-Ok (found_for g at.In_ok-request)).of_values

pub ratio_of_spread-ratio-requires-clause-units : goal.ratio_of_spread-ratio-requires-clause-units
ratio_of_spread-ratio-requires-clause-units g c =
    let at = goal.at.ratio_of_spread-ratio-requires-clause-units g c in
    subst (λ (Fs : List ℕ). All IsUnits Fs) (sym c.as_slice-4.ensures.value)
    (fits g at.In-Ok (found_for g at.In_ok-request)).units

pub trade-requires : goal.trade-requires
trade-requires g c =
    let i = c.self.inside in
    let found = c.in_ok-request in
    let made = c.judge_spread in
    let at = goal.at.trade-requires g c in
    subst (λ (r : TradeRatio). CanBeMade g.P.Engine.stands_for g.A.Engine.stands_for made.new.prices
    made.new.users i.journal found.request.user found.request.home r)
    (sym (same_ratio g at.After-ratio_of_spread-ratio))
    (can_be_made g.P.Engine.stands_for g.A.Engine.stands_for g.A.Engine.plan_for i.file i.prices
    i.rows i.plan i.users i.ledger i.journal i.payments i.till c.self.invariant found.request.user
    found.ensures.user.within
    (spread_ratio (spread_in found.request.question) c.in-Ok.factors.items) made.new.prices
    made.new.users c.in-Ok.ensures.prices c.in-Ok.ensures.held c.in-Ok.ensures.names
    (fits g at.In-Ok (found_for g at.In_ok-request)).ratio
    found.request.home found.ensures.home found.ensures.room)

pub invariant_of-self-2 : goal.invariant_of-self-2
invariant_of-self-2 g c =
    let i = c.self.inside in
    let found = c.in_ok-request in
    let at = goal.at.invariant_of-self-2 g c in
    let asks = found_for g at.In_ok-request in
    let taken = judged g at.In-Ok asks in
    let none = none g at.In-Ok asks in
    let history = traded_by i.journal.history found.request.user c.trade.ensures.history
    (same_ratio g at.After-ratio_of_spread-ratio) in
    let quotes = c.trade.ensures.quotes ∙ taken.same_quotes in
    trade_kept g.P.Engine.stands_for g.A.Engine.stands_for g.A.Engine.plan_for i.file i.prices
    i.rows i.plan i.users i.ledger i.journal i.payments i.till c.self.invariant found.request.user
    found.ensures.user.within
    (trade_ratio c.ratio_of_spread-ratio.result)
    (Spread c.args.name.now c.args.variable.now c.args.condition.now c.args.to.now c.args.at)
    (Spreaded c.in-Ok.factors c.revision.result) tt tt
    (fits g at.In-Ok asks).ratios
    (unsettled (market_of i.file) i.journal.history
    (Spread c.args.name.now c.args.variable.now c.args.condition.now c.args.to.now c.args.at) none)
    c.trade.new.users c.trade.new.journal
    (spread_trade_fits i.file i.journal (open_by c.self.invariant) c.args.name.now
    found.request.user
    found.ensures.user c.args.variable.now c.args.condition.now (spread_in found.request.question)
    asks.question taken.quote
    taken.judge.its
    c.args.to.now c.in-Ok.factors taken.is_inside.fair i.users c.trade.new.users c.trade.new.journal
    c.args.at none taken.is_inside.inside taken.judge.last history quotes
    c.revision.result c.revision.ensures)
    (spread_trade_next i.file i.journal (open_by c.self.invariant) c.args.name.now
    found.request.user
    found.ensures.user c.args.variable.now c.args.condition.now (spread_in found.request.question)
    asks.question taken.quote
    taken.judge.its
    c.args.to.now c.in-Ok.factors taken.is_inside.fair i.users c.trade.new.users c.trade.new.journal
    c.args.at none taken.is_inside.inside taken.judge.last history quotes
    c.revision.result c.revision.ensures)
    c.trade.ensures.history quotes c.trade.new.prices c.trade.ensures.limits (λ m stands. c.trade.ensures.prices m (c.in-Ok.ensures.prices m stands))
    (c.trade.ensures.names ∙ c.in-Ok.ensures.names) (c.trade.ensures.held i.file.net i.file.tree c.in-Ok.ensures.held)

pub returns : goal.returns
returns g c =
    let i = c.self.inside in
    let found = c.in_ok-request in
    let at = goal.at.returns g c in
    let asks = found_for g at.In_ok-request in
    let taken = judged g at.In-Ok asks in
    rw (← c.self.view_is)
    (spread_trade_answered i.file i.journal (open_by c.self.invariant) c.args.name.now
    found.request.user
    found.ensures.user c.args.variable.now c.args.condition.now (spread_in found.request.question)
    asks.question taken.quote
    taken.judge.its
    c.args.to.now c.in-Ok.factors taken.is_inside.fair i.users c.trade.new.users c.trade.new.journal
    c.args.at (none g at.In-Ok asks) taken.is_inside.inside taken.judge.last
    (traded_by i.journal.history found.request.user c.trade.ensures.history
    (same_ratio g at.After-ratio_of_spread-ratio)) (c.trade.ensures.quotes ∙ taken.same_quotes)
    c.revision.result c.revision.ensures i.ledger
    (record {
      named = c.trade.ensures.names ∙ c.in-Ok.ensures.names ∙ c.self.invariant.named;
      apart = apart_then found.request.user i.users c.judge_spread.new.users c.trade.new.users
          c.in-Ok.ensures.apart c.trade.ensures.apart;
    }))
