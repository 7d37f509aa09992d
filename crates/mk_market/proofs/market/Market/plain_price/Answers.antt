use Rattle.std.proofs.Common.{ℕ, refl, sym, subst}
use Rattle.std.specs.Prelude.{Option}
use Rattle.mk_answers.specs.Results.{IsPriceFor}
use Rattle.mk_market.proofs.Apart.{each_owns}
use Rattle.mk_market.proofs.Answers.{can_price, on_some, price_allowed, price_next}
use Rattle.mk_market.proofs.market.Market.plain_price.Goals as goal

pub price_of-requires : goal.price_of-requires
price_of-requires g c =
    can_price c.self.invariant c.in_ok-asked.ensures.question c.in_ok-asked.ensures.home

pub returns-clause-priced : goal.returns-clause-priced
returns-clause-priced g c =
    let i = c.self.inside in
    let found = c.in_ok-asked in
    on_some _ c.price_of.result (λ low high is.
    rw (← c.self.view_is) (record {
      market = refl;
      allowed = λ sound. price_allowed g.P.Engine.stands_for g.A.Engine.stands_for g.A.Engine.plan_for _ _ _ _ _ _ _ _ _ c.self.invariant c.args.question.now found.asked found.ensures.question
          low high (sym found.ensures.refusal)
          (λ tree H most_trades stands open_for fit answered. subst (λ (o : Option (ℕ × ℕ)). IsPriceFor i.file.net H most_trades found.asked o) is
          (c.price_of.ensures.price tree H most_trades stands open_for fit answered));
      next = price_next g.P.Engine.stands_for g.A.Engine.stands_for g.A.Engine.plan_for _ _ _ _ _ _ _ _ _ c.self.invariant c.args.question.now low high;
      paid = λ u. refl;
      one_each = each_owns _ _ c.self.invariant.named;
      others = λ u name at differs. refl;
    }))
