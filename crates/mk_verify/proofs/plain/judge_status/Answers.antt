use Rattle.mk_verify.proofs.ByWords.{status_told}
use Rattle.mk_verify.proofs.plain.judge_status.Goals as goal

pub returns : goal.returns
returns g c = rw c.judge_words.ensures
    (status_told c.args.market.now.market c.args.market.now.standing.history c.status-expected.result
    c.args.reply.now c.eq.result (λ quotes stands. c.status-expected.ensures.allowed stands.sound)
    c.eq.ensures)
