use Rattle.std.proofs.Common.{◌≡◌, None, refl, sym, ap, ◌∙◌}
use Rattle.mk_net.specs.Firsts.{first_of}
use Rattle.mk_command.specs.declared.command.Command.TheVariants.{Prices}
use Rattle.mk_reply.specs.declared.reply.Reply.TheVariants.{Refused, Prices as Told}
use Rattle.mk_file.specs.MarketOf.{market_of}
use Rattle.mk_beliefs.specs.Meanings.{weights_of}
use Rattle.mk_quote.specs.Questions.{spread_in}
use Rattle.mk_rules.specs.Refusals.{refusals_by_record, impossible_together}
use Rattle.mk_rules.proofs.Unrefused.{none_applies}
use Rattle.mk_market.specs.inner.Keeping.{standing_of}
use Rattle.mk_asking.specs.Stopped.{IsConditionBy}
use Rattle.mk_market.proofs.Apart.{each_owns}
use Rattle.mk_market.proofs.EveryValue.{can_refuse_told, condition_by, prices_allowed, prices_stopped}
use Rattle.mk_market.proofs.Growing.{open_by}
use Rattle.mk_market.proofs.Replies.{answered_by_record, none_appended}
use Rattle.mk_record.specs.Refused.{IsSpreadQuestionFor}
use Rattle.mk_record.proofs.SpreadRefusals.{value_is_held}
use Rattle.mk_market.proofs.Spreads.{question_for}
use Rattle.mk_market.proofs.market.Market.prices.Given.{Over}
use Rattle.mk_market.proofs.market.Market.prices.Goals.{In_ok-asked}
use Rattle.mk_market.proofs.market.Market.prices.Goals as goal

pub returns-in_err-asked : goal.returns-in_err-asked
returns-in_err-asked g c =
    answered_by_record _ c.args.self.now _ c.self.view_is (each_owns _ _ c.self.invariant.named)
    (Prices c.args.variable.now c.args.condition.now) tt
    c.in_err-asked.field-0.0 c.from_residual.result c.from_residual.ensures.1
    (c.in_err-asked.ensures.refusal c.args.condition.now (sym c.as_slice-words.ensures.value))

pub prices_of-requires : goal.prices_of-requires
prices_of-requires g c =
    let i = c.self.inside in let found = c.in_ok-asked in
    record {
      tree = i.file.tree;
      history = i.journal.history;
      stands = c.self.invariant.prices_stand;
      is_open = open_by c.self.invariant;
      answered = found.ensures.question.answered;
      held = λ value. value_is_held i.file.tree found.home (spread_in found.asked) value
          found.ensures.home;
    }

-- the words ask for prices, and the record refuses them nothing
module _ (g : Over) (c : In_ok-asked g) where
  question :
      let i = c.self.inside in
      IsSpreadQuestionFor (market_of i.file) i.file.tree i.journal.history c.args.variable.now
      c.args.condition.now.items (spread_in c.in_ok-asked.asked)
  question =
      question_for c.self.inside.file c.self.inside.journal.history c.args.variable.now
      c.as_slice-words.result.now c.args.condition.now (spread_in c.in_ok-asked.asked)
      c.as_slice-words.ensures.value c.in_ok-asked.ensures.question

  none :
      let i = c.self.inside in
      None ≡ first_of (refusals_by_record (market_of i.file) i.journal.history
      (Prices c.args.variable.now c.args.condition.now))
  none = c.in_ok-asked.ensures.refusal c.args.condition.now (sym c.as_slice-words.ensures.value)

  by : IsConditionBy c.self.inside.file.net c.as_slice-words.result.now
      (spread_in c.in_ok-asked.asked).condition
  by =
      let i = c.self.inside in
      condition_by i.file.net c.args.variable.now c.as_slice-words.result.now
      c.args.condition.now.items (spread_in c.in_ok-asked.asked)
      c.in_ok-asked.ensures.question.named
      c.as_slice-words.ensures.value
      (none_applies (refusals_by_record (market_of i.file) i.journal.history
      (Prices c.args.variable.now c.args.condition.now)) (sym none)).1.1.0

pub refuse_condition-requires : goal.refuse_condition-requires
refuse_condition-requires g c =
    let i = c.self.inside in let found = c.in_ok-asked in let H = i.journal.history in
    let opened = open_by c.self.invariant in
    can_refuse_told g.P.Engine.stands_for c.prices_of.new.prices i.file.net i.file.tree H
    (c.prices_of.ensures.kept (weights_of i.file.net i.file.tree H) c.self.invariant.prices_stand)
    opened c.as_slice-words.result.now (spread_in found.asked)
    (by g (goal.at.refuse_condition-requires g c).In_ok-asked)
    found.ensures.question.answered found.home found.ensures.home
    (c.in-None.ensures.prices i.file.tree H i.file.max_trades c.self.invariant.prices_stand opened
    c.self.invariant.safe.bounded.few_trades
    found.ensures.question.answered)

pub returns-in-Some : goal.returns-in-Some
returns-in-Some g c =
    let i = c.self.inside in let found = c.in_ok-asked in let H = i.journal.history in
    let asks = (goal.at.returns-in-Some g c).In_ok-asked in
    rw (← c.self.view_is) (record {
      market = refl;
      allowed = λ sound. prices_allowed i.file (standing_of i.journal i.users) c.args.variable.now
          c.args.condition.now (spread_in found.asked) (question g asks)
          c.in-Some.intervals (none g asks)
          (c.in-Some.ensures.prices i.file.tree H i.file.max_trades c.self.invariant.prices_stand
          (open_by c.self.invariant) c.self.invariant.safe.bounded.few_trades
          found.ensures.question.answered);
      next = none_appended (market_of i.file) (standing_of i.journal i.users)
          (Prices c.args.variable.now c.args.condition.now) (Told c.in-Some.intervals) refl refl;
      paid = λ u. refl;
      one_each = each_owns _ _ c.self.invariant.named;
      others = λ u name at differs. refl;
    })

pub returns-in-None : goal.returns-in-None
returns-in-None g c =
    let i = c.self.inside in let found = c.in_ok-asked in let H = i.journal.history in
    let opened = open_by c.self.invariant in
    let asks = (goal.at.returns-in-None g c).In_ok-asked in
    let refused = c.refuse_condition.ensures.refusal i.file.net i.file.tree H
    (c.prices_of.ensures.kept (weights_of i.file.net i.file.tree H)
    c.self.invariant.prices_stand) opened (by g asks)
    (c.in-None.ensures.prices i.file.tree H i.file.max_trades c.self.invariant.prices_stand opened
    c.self.invariant.safe.bounded.few_trades
    found.ensures.question.answered) in
    rw (← c.self.view_is) (record {
      market = refl;
      allowed = λ sound. prices_stopped i.file (standing_of i.journal i.users) c.args.variable.now
          c.args.condition.now (spread_in found.asked) (question g asks)
          c.refuse_condition.result (none g asks) (ap (impossible_together i.file.net H)
          (sym c.as_slice-words.ensures.value) ∙ refused);
      next = none_appended (market_of i.file) (standing_of i.journal i.users)
          (Prices c.args.variable.now c.args.condition.now) (Refused c.refuse_condition.result)
          refl refl;
      paid = λ u. refl;
      one_each = each_owns _ _ c.self.invariant.named;
      others = λ u name at differs. refl;
    })
