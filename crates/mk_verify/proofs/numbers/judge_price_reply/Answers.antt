use Rattle.mk_verify.proofs.ToldNumbers.{price_told}
use Rattle.mk_verify.proofs.numbers.judge_price_reply.Goals as goal

pub returns-in-Price-clause-judged : goal.returns-in-Price-clause-judged
returns-in-Price-clause-judged g c =
    let says = c.judge_price.ensures in
    rw c.in-Price.is (price_told c.args.market.now.market c.args.market.now.standing.history
    c.args.question.now c.in-Ok.bounds c.args.small c.max_trades.result c.in-Price.low
    c.in-Price.high c.judge_price.result (c.in-Ok.ensures.evidence.0)
    (c.in-Ok.ensures.evidence.1) c.requires.small
    (rw c.price_evidence.ensures.same at c.max_trades.ensures)
    (record {
      allowed = says.allowed;
      wrong = says.wrong;
      unclear = says.unclear;
      clear = says.clear;
    }))
