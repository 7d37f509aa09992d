use Rattle.mk_verify.proofs.ToldNumbers.{withdrawn_told, short_told, not_taken}
use Rattle.mk_verify.proofs.numbers.judge_withdrawal.Goals as goal

pub returns-then-tells_withdrawal-clause-judged : goal.returns-then-tells_withdrawal-clause-judged
returns-then-tells_withdrawal-clause-judged g c =
    let says = c.judge_covered.ensures in
    let tells = rw (c.history.ensures.same, c.withdrawal_evidence.ensures.same.standing) at
    c.tells_withdrawal.ensures in
    let told = tells.0 c.if-tells_withdrawal.true in
    rw told (withdrawn_told c.args.market.now.market c.args.market.now.standing.history
    c.args.name.now c.args.bits (c.in-Ok.ensures.evidence.0) c.in-Ok.factor
    c.judge_covered.result (c.in-Ok.ensures.evidence.1)
    (record { allowed = says.allowed; wrong = says.wrong; unclear = says.unclear }))

pub returns-in-Some-clause-judged : goal.returns-in-Some-clause-judged
returns-in-Some-clause-judged g c =
    let says = c.judge_most.ensures in
    let told = c.in-Some.ensures.some in
    rw (told.1) (short_told c.args.market.now.market c.args.market.now.standing.history
    c.args.name.now c.args.bits (c.in-Ok.ensures.evidence.0) c.in-Ok.factor c.args.small
    c.max_trades.result c.in-Some.most c.judge_most.result (told.0)
    (c.in-Ok.ensures.evidence.1) c.requires.small
    (rw c.withdrawal_evidence.ensures.same.market at c.max_trades.ensures)
    (record { allowed = says.allowed; wrong = says.wrong; unclear = says.unclear }))

pub returns-in-None-clause-judged : goal.returns-in-None-clause-judged
returns-in-None-clause-judged g c =
    let tells = rw (c.history.ensures.same, c.withdrawal_evidence.ensures.same.standing) at
    c.tells_withdrawal.ensures in
    not_taken c.args.market.now.market c.args.market.now.standing.history c.args.name.now
    c.args.bits (c.in-Ok.ensures.evidence.0) c.args.reply.now
    (λ told. let yes = tells.1 told in absurd (cc)) c.in-None.ensures.none
