use Rattle.mk_verify.proofs.ToldNumbers.{bound_told}
use Rattle.mk_verify.proofs.numbers.judge_bound_reply.Goals as goal

pub returns-in-Bound-clause-judged : goal.returns-in-Bound-clause-judged
returns-in-Bound-clause-judged g c =
    let says = c.judge_bound.ensures in
    let same = c.bound_evidence.ensures.same in
    rw c.in-Bound.is (bound_told c.args.market.now.market c.args.market.now.standing.history
    (c.in-Ok.ensures.evidence.0) c.in-Ok.least c.in-Bound.low c.in-Bound.high
    c.judge_bound.result (c.in-Ok.ensures.evidence.1) c.bound_evidence.ensures.cells
    c.variables.result c.points_per_bit.result (rw same at c.variables.ensures.count)
    (rw same at c.points_per_bit.ensures.points)
    (record { allowed = says.allowed; wrong = says.wrong; unclear = says.unclear }))
