use Rattle.mk_verify.proofs.ToldNumbers.{worst_told}
use Rattle.mk_verify.proofs.numbers.judge_worst_reply.Goals as goal

pub returns-in-Worst-clause-judged : goal.returns-in-Worst-clause-judged
returns-in-Worst-clause-judged g c =
    let says = c.judge_cash.ensures in
    rw c.in-Worst.is (worst_told c.args.market.now.market c.args.market.now.standing.history
    c.args.name.now c.in-Ok.factor c.args.small c.max_trades.result c.points_per_bit.result
    c.in-Worst.low c.in-Worst.high c.judge_cash.result (c.in-Ok.ensures.evidence.0)
    (c.in-Ok.ensures.evidence.1) c.requires.small
    (rw c.worst_evidence.ensures.same.market at c.max_trades.ensures)
    (rw c.worst_evidence.ensures.same.market at c.points_per_bit.ensures.points)
    (record { allowed = says.allowed; wrong = says.wrong; unclear = says.unclear }))
