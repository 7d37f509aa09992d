use Rattle.mk_rules.specs.Refusals.{user_number}
use Rattle.mk_verify.proofs.ToldValues.{position_in_range, position_told}
use Rattle.mk_verify.proofs.numbers.judge_position.Goals as goal

pub judge_each_position-requires-clause-range : goal.judge_each_position-requires-clause-range
judge_each_position-requires-clause-range g c =
    rw c.as_slice.ensures.value (position_in_range c.args.market.now.market
    c.args.market.now.standing.history (user_number c.args.market.now.standing.history
    c.args.name.now) _ c.in-Ok.factors.items c.points_per_bit.result
    c.points_per_bit.ensures.few (c.in-Ok.ensures.evidence.1))

pub returns-in-Position-clause-judged : goal.returns-in-Position-clause-judged
returns-in-Position-clause-judged g c =
    let market = c.args.market.now.market in
    let H = c.args.market.now.standing.history in
    let u = user_number H c.args.name.now in
    let found = c.in-Ok.ensures.evidence in
    let trades = rw c.position_evidence.ensures.same.market at c.max_trades.ensures in
    let points = rw c.position_evidence.ensures.same.market at c.points_per_bit.ensures.points in
    let judged = rw (c.as_slice.ensures.value, c.as_slice-in-Position.ensures.value) at
    (c.judge_each_position.ensures market H u) in
    rw c.in-Position.is (position_told market H c.args.name.now c.args.variable.now
    c.args.condition.now (found.0) c.in-Ok.factors.items c.in-Position.intervals
    c.judge_each_position.result (found.1)
    (λ spread sound its. judged spread c.requires.small sound trades points its))
