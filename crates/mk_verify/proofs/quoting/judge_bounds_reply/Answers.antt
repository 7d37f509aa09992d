use Rattle.mk_verify.proofs.EditingKnown.{flag_tells}
use Rattle.mk_verify.proofs.SpreadingReplies.{evidence_in_range, bounds_allowed}
use Rattle.mk_verify.proofs.quoting.judge_bounds_reply.Goals as goal

pub judge_told_bounds-requires : goal.judge_told_bounds-requires
judge_told_bounds-requires g c = record {
  range = evidence_in_range c.args.market.now.market c.args.market.now.standing.history
      c.args.name.now c.args.variable.now c.args.condition.now c.in-Ok.evidence
      (c.in-Ok.ensures.evidence.1);
}

pub returns-in-Ok-clause-judged : goal.returns-in-Ok-clause-judged
returns-in-Ok-clause-judged g c =
    let market = c.args.market.now.market in
    let H = c.args.market.now.standing.history in
    bounds_allowed market H c.args.known.now.quotes c.args.name.now c.args.variable.now
    c.args.condition.now c.in-Ok.evidence c.is_small.result c.revision_of-now.result
    (c.in-Ok.ensures.evidence.1)
    (flag_tells market H c.args.known.now c.is_small.result c.requires.known c.is_small.ensures)
    c.revision_of-now.ensures c.args.reply.now c.judge_told_bounds.result
    (c.in-Ok.ensures.evidence.0)
    (c.judge_told_bounds.ensures market H c.args.name.now c.args.variable.now
    c.args.condition.now)
