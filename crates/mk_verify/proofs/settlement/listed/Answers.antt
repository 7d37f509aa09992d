use Rattle.mk_verify.proofs.settlement.listed.Goals as goal

pub returns-clause-some : goal.returns-clause-some
returns-clause-some g c = rw (← c.market.view_is) c.told_payments.ensures.some

pub returns-clause-in_order : goal.returns-clause-in_order
returns-clause-in_order g c =
    rw (← c.market.view_is) (rw c.market.invariant.named at c.told_payments.ensures.in_order)

pub returns-clause-none : goal.returns-clause-none
returns-clause-none g c =
    rw (← c.market.view_is) (rw c.market.invariant.named at c.told_payments.ensures.none)
