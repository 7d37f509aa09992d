use Rattle.std.proofs.Common.{◌≡◌, None, refl, sym, ap, ◌∙◌}
use Rattle.mk_net.specs.Firsts.{first_of}
use Rattle.mk_exact.specs.History.{users}
use Rattle.mk_command.specs.declared.command.Command.TheVariants.{Position}
use Rattle.mk_reply.specs.declared.reply.Reply.TheVariants.{Refused, Position as Sure}
use Rattle.mk_file.specs.MarketOf.{market_of}
use Rattle.mk_quote.specs.Questions.{spread_in}
use Rattle.mk_rules.specs.Refusals.{refusals_by_record, impossible_together}
use Rattle.mk_rules.proofs.Unrefused.{none_applies}
use Rattle.mk_market.specs.inner.Keeping.{standing_of}
use Rattle.mk_asking.specs.Stopped.{IsConditionBy}
use Rattle.mk_asking.proofs.Apart.{apart_lent, apart_then}
use Rattle.mk_market.proofs.Apart.{each_owns, others_left}
use Rattle.mk_market.proofs.EveryValue.{can_refuse_told, condition_by, same_standing}
use Rattle.mk_market.proofs.EveryValue.{position_allowed, position_stopped}
use Rattle.mk_market.proofs.Growing.{open_by}
use Rattle.mk_asking.proofs.Lent.{in_range, names_stay}
use Rattle.mk_market.proofs.Quotes.{kept_learnt, kept_lent, answered_learnt}
use Rattle.mk_market.proofs.Refiled.{refiled}
use Rattle.mk_market.proofs.Replies.{answered_by_record, none_appended}
use Rattle.mk_record.specs.Refused.{IsSpreadQuestionFor}
use Rattle.mk_record.proofs.SpreadRefusals.{value_is_held}
use Rattle.mk_market.proofs.Spreads.{question_for}
use Rattle.mk_market.proofs.market.Market.position.Given.{Over}
use Rattle.mk_market.proofs.market.Market.position.Goals.{In_ok-request}
use Rattle.mk_market.proofs.market.Market.position.Goals as goal

pub returns-in_err-request : goal.returns-in_err-request
returns-in_err-request g c =
    answered_by_record _ c.args.self.now _ c.self.view_is (each_owns _ _ c.self.invariant.named)
    (Position c.args.name.now c.args.variable.now c.args.condition.now) tt
    c.in_err-request.field-0.0 c.from_residual.result c.from_residual.ensures.1
    (c.in_err-request.ensures.refusal c.args.condition.now (sym c.as_slice-words.ensures.value))

pub assets-requires : goal.assets-requires
assets-requires g c =
    let i = c.self.inside in
    in_range c.learn.new.users (users i.journal.history) c.in_ok-request.request.user (c.learn.ensures.names ∙ c.self.invariant.named) c.in_ok-request.ensures.user.within

pub position_of-requires-clause-assets : goal.position_of-requires-clause-assets
position_of-requires-clause-assets g c =
    let i = c.self.inside in
    let kept = kept_learnt c.self.invariant c.learn.ensures.names c.learn.ensures.quotes c.learn.ensures.held in
    let found = c.in_ok-request in
    record {
      tree = i.file.tree;
      history = i.journal.history;
      user = found.request.user;
      owns = c.learn.ensures.learnt c.assets.result.now c.assets.ensures.value;
      is_open = open_by kept;
      answered = found.ensures.question.answered;
      held = λ value. value_is_held i.file.tree found.request.home
          (spread_in found.request.question) value found.ensures.home;
    }

pub invariant_of-self : goal.invariant_of-self
invariant_of-self g c =
    let kept = kept_learnt c.self.invariant c.learn.ensures.names c.learn.ensures.quotes c.learn.ensures.held in
    refiled _ _ _ _ _ _ _ _ _ _ _ _ g.P.Engine.stands_for g.A.Engine.stands_for g.A.Engine.plan_for _ _ _ _
    _ _ _ _
    (kept_lent kept c.in_ok-request.request.user c.assets.ensures.value
    c.position_of.ensures.kept_assets (λ m stands. stands))

-- the words ask for a position, and the record refuses them nothing
module _ (g : Over) (c : In_ok-request g) where
  question :
      let i = c.self.inside in
      IsSpreadQuestionFor (market_of i.file) i.file.tree i.journal.history c.args.variable.now
      c.args.condition.now.items (spread_in c.in_ok-request.request.question)
  question =
      question_for c.self.inside.file c.self.inside.journal.history c.args.variable.now
      c.as_slice-words.result.now c.args.condition.now (spread_in c.in_ok-request.request.question)
      c.as_slice-words.ensures.value c.in_ok-request.ensures.question

  none :
      let i = c.self.inside in
      None ≡ first_of (refusals_by_record (market_of i.file) i.journal.history
      (Position c.args.name.now c.args.variable.now c.args.condition.now))
  none = c.in_ok-request.ensures.refusal c.args.condition.now (sym c.as_slice-words.ensures.value)

  by : IsConditionBy c.self.inside.file.net c.as_slice-words.result.now
      (spread_in c.in_ok-request.request.question).condition
  by =
      let i = c.self.inside in
      condition_by i.file.net c.args.variable.now c.as_slice-words.result.now
      c.args.condition.now.items (spread_in c.in_ok-request.request.question)
      c.in_ok-request.ensures.question.named
      c.as_slice-words.ensures.value
      (none_applies (refusals_by_record (market_of i.file) i.journal.history
      (Position c.args.name.now c.args.variable.now c.args.condition.now)) (sym none)).1.1.1.0

pub refuse_condition-requires : goal.refuse_condition-requires
refuse_condition-requires g c =
    let i = c.self.inside in
    let kept = kept_learnt c.self.invariant c.learn.ensures.names c.learn.ensures.quotes c.learn.ensures.held in
    let found = c.in_ok-request in let H = i.journal.history in
    let opened = open_by kept in
    can_refuse_told g.P.Engine.stands_for i.prices i.file.net i.file.tree H
    kept.prices_stand opened c.as_slice-words.result.now (spread_in found.request.question)
    (by g (goal.at.refuse_condition-requires g c).In_ok-request)
    found.ensures.question.answered found.request.home found.ensures.home
    (c.in-None.ensures.position i.file.tree H i.file.max_trades found.request.user
    (c.learn.ensures.learnt c.assets.result.now c.assets.ensures.value)
    opened kept.safe.bounded.few_trades found.ensures.question.answered)

pub invariant_of-self-in-None : goal.invariant_of-self-in-None
invariant_of-self-in-None g c =
    let kept = kept_learnt c.self.invariant c.learn.ensures.names c.learn.ensures.quotes c.learn.ensures.held in
    refiled _ _ _ _ _ _ _ _ _ _ _ _ g.P.Engine.stands_for g.A.Engine.stands_for g.A.Engine.plan_for _ _ _ _
    _ _ _ _
    (kept_lent kept c.in_ok-request.request.user c.assets.ensures.value
    c.position_of.ensures.kept_assets c.refuse_condition.ensures.kept)

pub returns-in-Some : goal.returns-in-Some
returns-in-Some g c =
    let i = c.self.inside in
    let kept = kept_learnt c.self.invariant c.learn.ensures.names c.learn.ensures.quotes c.learn.ensures.held in
    let found = c.in_ok-request in let H = i.journal.history in
    let asks = (goal.at.returns-in-Some g c).In_ok-request in
    let lent = apart_lent c.learn.new.users found.request.user c.position_of.new.assets in
    rw (← c.self.view_is) (answered_learnt i.file i.ledger i.journal i.users c.learn.new.users
    c.learn.ensures.quotes _
    (Position c.args.name.now c.args.variable.now c.args.condition.now) (Sure c.in-Some.intervals)
    (others_left H c.args.name.now found.request.user found.ensures.user i.users _
    (apart_then found.request.user i.users c.learn.new.users _ c.learn.ensures.apart lent)) (record {
      market = refl;
      allowed = λ sound. position_allowed i.file (standing_of i.journal c.learn.new.users) c.args.variable.now
          c.args.condition.now (spread_in found.request.question) (question g asks)
          c.args.name.now found.request.user found.ensures.user c.in-Some.intervals (none g asks)
          (c.in-Some.ensures.position i.file.tree H i.file.max_trades found.request.user
          (c.learn.ensures.learnt c.assets.result.now c.assets.ensures.value)
          (open_by kept) kept.safe.bounded.few_trades found.ensures.question.answered) sound;
      next = same_standing i.journal c.learn.new.users found.request.user c.assets.result.now
          c.position_of.new.assets c.assets.ensures.value
          ∙ none_appended (market_of i.file) (standing_of i.journal c.learn.new.users)
          (Position c.args.name.now c.args.variable.now c.args.condition.now)
          (Sure c.in-Some.intervals) refl refl;
      paid = λ u. refl;
      one_each = each_owns _ (users H)
          (names_stay c.learn.new.users found.request.user c.position_of.new.assets ∙ kept.named);
      others = others_left H c.args.name.now found.request.user found.ensures.user
          c.learn.new.users _ lent;
    }))

pub returns-in-None : goal.returns-in-None
returns-in-None g c =
    let i = c.self.inside in
    let kept = kept_learnt c.self.invariant c.learn.ensures.names c.learn.ensures.quotes c.learn.ensures.held in
    let found = c.in_ok-request in let H = i.journal.history in
    let opened = open_by kept in
    let asks = (goal.at.returns-in-None g c).In_ok-request in
    let refused = c.refuse_condition.ensures.refusal i.file.net i.file.tree H
    kept.prices_stand opened (by g asks)
    (c.in-None.ensures.position i.file.tree H i.file.max_trades found.request.user
    (c.learn.ensures.learnt c.assets.result.now c.assets.ensures.value) opened
    kept.safe.bounded.few_trades found.ensures.question.answered) in
    let lent = apart_lent c.learn.new.users found.request.user c.position_of.new.assets in
    rw (← c.self.view_is) (answered_learnt i.file i.ledger i.journal i.users c.learn.new.users
    c.learn.ensures.quotes _
    (Position c.args.name.now c.args.variable.now c.args.condition.now)
    (Refused c.refuse_condition.result)
    (others_left H c.args.name.now found.request.user found.ensures.user i.users _
    (apart_then found.request.user i.users c.learn.new.users _ c.learn.ensures.apart lent)) (record {
      market = refl;
      allowed = λ sound. position_stopped i.file (standing_of i.journal c.learn.new.users) c.args.variable.now
          c.args.condition.now (spread_in found.request.question) (question g asks)
          c.args.name.now c.refuse_condition.result (none g asks)
          (ap (impossible_together i.file.net H) (sym c.as_slice-words.ensures.value) ∙
          refused);
      next = same_standing i.journal c.learn.new.users found.request.user c.assets.result.now
          c.position_of.new.assets c.assets.ensures.value
          ∙ none_appended (market_of i.file) (standing_of i.journal c.learn.new.users)
          (Position c.args.name.now c.args.variable.now c.args.condition.now)
          (Refused c.refuse_condition.result) refl refl;
      paid = λ u. refl;
      one_each = each_owns _ (users H)
          (names_stay c.learn.new.users found.request.user c.position_of.new.assets ∙ kept.named);
      others = others_left H c.args.name.now found.request.user found.ensures.user
          c.learn.new.users _ lent;
    }))
