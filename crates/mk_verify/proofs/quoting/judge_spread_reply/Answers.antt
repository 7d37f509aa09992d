use Rattle.std.specs.Prelude.{option_map, option_copied}
use Rattle.mk_reply.specs.Refusals.{given_in}
use Rattle.mk_verify.proofs.EditingKnown.{flag_tells}
use Rattle.mk_verify.proofs.SpreadingReplies.{evidence_in_range, spread_shares, spread_allowed}
use Rattle.mk_verify.proofs.quoting.judge_spread_reply.Goals as goal

pub judge_spread-requires-clause-range : goal.judge_spread-requires-clause-range
judge_spread-requires-clause-range g c =
    evidence_in_range c.args.market.now.market c.args.market.now.standing.history
    c.args.name.now c.args.asked.variable.now c.args.asked.condition.now c.in-Ok.evidence
    (c.in-Ok.ensures.evidence.1)

pub judge_spread-requires-clause-shares : goal.judge_spread-requires-clause-shares
judge_spread-requires-clause-shares g c = rw c.as_slice.ensures.value
    (spread_shares c.args.market.now.market c.args.market.now.standing.history
    c.args.name.now c.args.asked.variable.now c.args.asked.condition.now c.args.asked.to.now
    c.args.asked.at (c.in-Ok.ensures.evidence.0))

pub returns-in-Ok-clause-judged : goal.returns-in-Ok-clause-judged
returns-in-Ok-clause-judged g c =
    let market = c.args.market.now.market in
    let H = c.args.market.now.standing.history in
    spread_allowed market H c.args.known.now.quotes c.args.name.now c.args.asked.variable.now
    c.args.asked.condition.now c.in-Ok.evidence c.is_small.result c.revision_of-now.result
    (c.in-Ok.ensures.evidence.1)
    (flag_tells market H c.args.known.now c.is_small.result c.requires.known c.is_small.ensures)
    c.revision_of-now.ensures c.args.asked.to.now c.args.asked.at
    (option_map given_in (option_copied c.bounds_for-quoted.result)) c.args.reply.now
    c.judge_spread.result c.bounds_for-quoted.ensures (c.in-Ok.ensures.evidence.0)
    (rw c.as_slice.ensures.value at (c.judge_spread.ensures market H c.args.name.now
    c.args.asked.variable.now c.args.asked.condition.now))
