use Rattle.std.proofs.Common.{refl}
use Rattle.mk_command.specs.declared.command.Command.TheVariants.{Price}
use Rattle.mk_beliefs.specs.Meanings.{weights_of}
use Rattle.mk_market.proofs.Apart.{each_owns}
use Rattle.mk_market.proofs.Growing.{open_by}
use Rattle.mk_market.proofs.Replies.{answered_by_record}
use Rattle.mk_market.proofs.Answers.{can_price, price_allowed, price_next}
use Rattle.mk_asking.proofs.Stopping.{can_refuse_condition, impossible_by}
use Rattle.mk_market.proofs.Stopping.{price_known, price_stopped}
use Rattle.mk_market.proofs.market.Market.price.Goals as goal

pub returns-in_err-asked : goal.returns-in_err-asked
returns-in_err-asked g c =
    answered_by_record _ c.args.self.now _ c.self.view_is (each_owns _ _ c.self.invariant.named)
    (Price c.args.question.now) tt
    c.in_err-asked.field-0.0 c.from_residual.result c.from_residual.ensures.1
    c.in_err-asked.ensures.refusal

pub price_of-requires : goal.price_of-requires
price_of-requires g c =
    can_price c.self.invariant c.in_ok-asked.ensures.question c.in_ok-asked.ensures.home

pub refuse_condition-requires : goal.refuse_condition-requires
refuse_condition-requires g c =
    let i = c.self.inside in
    let found = c.in_ok-asked in
    let opened = open_by c.self.invariant in
    let price = c.in-None.ensures.price i.file.tree i.journal.history i.file.max_trades c.self.invariant.prices_stand opened
    c.self.invariant.safe.bounded.few_trades found.ensures.question.answered in
    can_refuse_condition g.P.Engine.stands_for c.price_of.new.prices i.file.net i.file.tree i.journal.history
    (c.price_of.ensures.kept (weights_of i.file.net i.file.tree i.journal.history) c.self.invariant.prices_stand) opened c.args.question.now found.asked
    found.ensures.question.named (price_known i.file i.journal.history c.args.question.now found.ensures.refusal) found.ensures.question.answered
    found.home found.ensures.home c.condition.result c.as_slice.result.now
    c.condition.ensures.condition c.as_slice.ensures.value (price.none.0 refl)

pub returns-in-Some : goal.returns-in-Some
returns-in-Some g c =
    rw (← c.self.view_is) (record {
      market = refl;
      allowed = λ sound. price_allowed g.P.Engine.stands_for g.A.Engine.stands_for g.A.Engine.plan_for _ _ _ _ _ _ _ _ _ c.self.invariant c.args.question.now c.in_ok-asked.asked c.in_ok-asked.ensures.question
          (c.in-Some.price.0) (c.in-Some.price.1) c.in_ok-asked.ensures.refusal c.in-Some.ensures.price;
      next = price_next g.P.Engine.stands_for g.A.Engine.stands_for g.A.Engine.plan_for _ _ _ _ _ _ _ _ _ c.self.invariant c.args.question.now (c.in-Some.price.0) (c.in-Some.price.1);
      paid = λ u. refl;
      one_each = each_owns _ _ c.self.invariant.named;
      others = λ u name at differs. refl;
    })

pub returns-in-None : goal.returns-in-None
returns-in-None g c =
    let i = c.self.inside in
    let found = c.in_ok-asked in
    let opened = open_by c.self.invariant in
    let price = c.in-None.ensures.price i.file.tree i.journal.history i.file.max_trades c.self.invariant.prices_stand opened
    c.self.invariant.safe.bounded.few_trades found.ensures.question.answered in
    rw (← c.self.view_is) (price_stopped i.file i.ledger i.journal i.users i.users refl c.self.invariant.named refl
    c.args.question.now c.refuse_condition.result found.ensures.refusal
    (impossible_by i.file.net i.journal.history c.args.question.now found.asked
    (record { named = found.ensures.question.named; known = price_known i.file i.journal.history c.args.question.now found.ensures.refusal })
    c.condition.result c.as_slice.result.now c.refuse_condition.result c.condition.ensures.condition c.as_slice.ensures.value (price.none.0 refl)
    (c.refuse_condition.ensures.refusal i.file.net i.file.tree i.journal.history
    (c.price_of.ensures.kept (weights_of i.file.net i.file.tree i.journal.history) c.self.invariant.prices_stand) opened)))
