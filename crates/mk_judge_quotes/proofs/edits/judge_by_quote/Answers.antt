use Rattle.mk_judge_quotes.proofs.EditingJudged.{inside_judged}
use Rattle.mk_judge_quotes.proofs.edits.judge_by_quote.Goals as goal

pub returns-then-is_inside : goal.returns-then-is_inside
returns-then-is_inside c = λ market H name q its.
    inside_judged market H name q c.args.bounds.now c.args.small c.args.now its c.args.to c.args.limits c.args.reply.now c.judge_trade.result (c.is_inside.ensures.0 c.if-is_inside.true)
    (c.judge_trade.ensures market H name q its)
