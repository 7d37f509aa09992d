use Rattle.mk_market.proofs.Refiled.{same_file}
use Rattle.mk_market.proofs.Resolved.{has_home, can_ask, unrefused_where, never_refused}
use Rattle.mk_evidence.proofs.Asked.{filed_kept, prices_kept}
use Rattle.mk_evidence.proofs.refused.refused_resolution.Goals as goal

pub home_of-home-requires : goal.home_of-home-requires
home_of-home-requires g c = has_home g.P.Engine.stands_for g.A.Engine.stands_for g.A.Engine.plan_for
    _ _ _ _ _ _ _ _ _ c.market.invariant c.args.words.now c.in_ok-pair.pair
    c.in_ok-pair.ensures.named c.in_ok-pair.ensures.pair

pub can_come-requires : goal.can_come-requires
can_come-requires g c = can_ask g.P.Engine.stands_for g.A.Engine.stands_for g.A.Engine.plan_for
    _ _ _ _ _ _ _ _ _ c.market.invariant c.args.words.now c.in_ok-pair.pair
    c.in_ok-pair.ensures.named c.in_ok-pair.ensures.pair c.home_of-home.result
    c.home_of-home.ensures

pub invariant_of-market : goal.invariant_of-market
invariant_of-market g c = filed_kept (prices_kept c.market.invariant c.can_come.ensures.kept)
    (same_file _ _ _ _ _ _ _ _ _ _ _ _)

pub invariant_of-market-2 : goal.invariant_of-market-2
invariant_of-market-2 g c = filed_kept (prices_kept c.market.invariant c.can_come.ensures.kept)
    (same_file _ _ _ _ _ _ _ _ _ _ _ _)

pub returns-then-not-can_come-clause-refusal : goal.returns-then-not-can_come-clause-refusal
returns-then-not-can_come-clause-refusal g c =
    rw (← c.market.view_is) (never_refused g.P.Engine.stands_for g.A.Engine.stands_for
    g.A.Engine.plan_for _ _ _ _ _ _ _ _ _ c.market.invariant c.args.words.now c.in_ok-pair.pair
    c.in_ok-pair.ensures.named c.in_ok-pair.ensures.pair c.in_ok-pair.ensures.refusal
    c.can_come.result c.can_come.ensures.found c.if-not-can_come.true)

pub returns-clause-refusal : goal.returns-clause-refusal
returns-clause-refusal g c =
    rw (← c.market.view_is) (unrefused_where g.P.Engine.stands_for g.A.Engine.stands_for
    g.A.Engine.plan_for _ _ _ _ _ _ _ _ _ c.market.invariant c.args.words.now c.in_ok-pair.pair
    c.in_ok-pair.ensures.named c.in_ok-pair.ensures.pair c.in_ok-pair.ensures.refusal
    c.can_come.result c.can_come.ensures.found c.if-not-can_come.false)
