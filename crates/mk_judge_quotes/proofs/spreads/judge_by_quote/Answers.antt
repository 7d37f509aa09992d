use Rattle.mk_reply.specs.Refusals.{given_in}
use Rattle.mk_judge_quotes.proofs.SpreadingJudged.{within_judged}
use Rattle.mk_judge_quotes.proofs.spreads.judge_by_quote.Goals as goal

pub returns-then-are_inside : goal.returns-then-are_inside
returns-then-are_inside c = λ market H name v condition its.
    within_judged market H name v condition c.args.bounds.now c.args.small c.args.now its c.args.to.now (given_in c.args.intervals.now) c.args.reply.now c.judge_spread_trade.result
    (c.are_inside.ensures.0 c.if-are_inside.true) (c.judge_spread_trade.ensures market H name v condition its)
