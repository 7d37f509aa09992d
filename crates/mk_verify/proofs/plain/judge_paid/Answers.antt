use Rattle.mk_verify.proofs.ByWords.{paid_told}
use Rattle.mk_verify.proofs.plain.judge_paid.Goals as goal

pub returns : goal.returns
returns g c = rw c.judge_words.ensures
    (paid_told c.args.market.now.market c.args.market.now.standing.history c.args.name.now
    c.paid-expected.result c.args.reply.now c.eq.result
    (λ quotes stands. c.paid-expected.ensures.allowed stands.sound) c.eq.ensures)
