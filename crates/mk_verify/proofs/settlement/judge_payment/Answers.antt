use Rattle.mk_verify.proofs.Settled.{payment_judged}
use Rattle.mk_verify.proofs.settlement.judge_payment.Goals as goal

pub returns-clause-judged : goal.returns-clause-judged
returns-clause-judged g c state sound one =
    let says = c.judge_cash.ensures in
    payment_judged c.args.market.now.market c.args.market.now.standing.history state c.args.user
    c.args.payment.now c.payment_evidence-factor.result c.args.small c.max_trades.result
    c.points_per_bit.result c.judge_cash.result c.requires.small sound
    (c.payment_evidence-factor.ensures.evidence state one)
    (rw c.payment_evidence-factor.ensures.same.market at c.max_trades.ensures)
    (rw c.payment_evidence-factor.ensures.same.market at c.points_per_bit.ensures.points)
    c.if-payment.false
    (record { allowed = says.allowed; wrong = says.wrong; unclear = says.unclear })
