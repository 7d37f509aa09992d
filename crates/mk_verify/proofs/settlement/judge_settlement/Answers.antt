use Rattle.std.proofs.Common.{sym, subst}
use Rattle.mk_reply.specs.Replies.{IsReply}
use Rattle.mk_verify.proofs.Settled.{settled_told, unlisted_told}
use Rattle.mk_verify.proofs.settlement.judge_settlement.Goals as goal

pub judge_payments-requires-clause-in_order : goal.judge_payments-requires-clause-in_order
judge_payments-requires-clause-in_order g c = rw c.rows.ensures.same c.in-Some.ensures.in_order

pub judge_payments-requires-clause-fits : goal.judge_payments-requires-clause-fits
judge_payments-requires-clause-fits g c =
    let told = subst IsReply c.in-Some.ensures.some c.requires.reply in
    rw c.rows.ensures.same (told.1.each)

pub returns-in-Some-clause-judged : goal.returns-in-Some-clause-judged
returns-in-Some-clause-judged g c =
    rw c.in-Some.ensures.some (settled_told c.args.market.now.market
    c.args.market.now.standing.history (sym c.in-Ok.ensures.refusal) c.in-Some.payments.now
    c.judge_payments.result c.in-Ok.ensures.outcome c.in-Some.ensures.in_order
    c.rows.ensures.few (rw c.rows.ensures.same at c.judge_payments.ensures.judged))

pub returns-in-None-clause-judged : goal.returns-in-None-clause-judged
returns-in-None-clause-judged g c =
    rw c.judge_words.ensures (unlisted_told c.args.market.now.market
    c.args.market.now.standing.history (sym c.in-Ok.ensures.refusal) c.args.reply.now
    c.tells_by_rule.result c.requires.reply c.tells_by_rule.ensures.tells
    c.in-None.ensures.none)
