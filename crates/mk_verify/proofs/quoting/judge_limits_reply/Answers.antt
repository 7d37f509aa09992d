use Rattle.mk_verify.proofs.EditingKnown.{flag_tells}
use Rattle.mk_verify.proofs.EditingReplies.{limits_allowed}
use Rattle.mk_verify.proofs.quoting.judge_limits_reply.Goals as goal

pub returns-in-Ok-clause-judged : goal.returns-in-Ok-clause-judged
returns-in-Ok-clause-judged g c =
    let market = c.args.market.now.market in
    let H = c.args.market.now.standing.history in
    limits_allowed market H c.args.known.now.quotes c.args.name.now c.args.question.now
    c.in-Ok.evidence c.is_small.result c.revision_of-now.result (c.in-Ok.ensures.evidence.1)
    (flag_tells market H c.args.known.now c.is_small.result c.requires.known c.is_small.ensures)
    c.revision_of-now.ensures c.args.reply.now c.judge_told_limits.result
    (c.in-Ok.ensures.evidence.0)
    (c.judge_told_limits.ensures market H c.args.name.now c.args.question.now)
