use Rattle.mk_states.specs.Events.{with_target}
use Rattle.mk_spread.specs.Spreads.{asked_of}
use Rattle.mk_verify.proofs.ToldValues.{least_judged}
use Rattle.mk_verify.proofs.each.judge_value_cash.Goals as goal

pub returns-in-Some-Some : goal.returns-in-Some-Some
returns-in-Some-Some c market H u value spread tells sound trades points evidence =
    let says = c.judge_cash.ensures in
    let is = c.in-Some-Some.is-1 in
    let low_is = c.in-Some-Some.low-is in
    rw c.in-Some-Some.is-1
    (least_judged market H u (with_target (asked_of spread value)) c.in-Some-Some.factor
    c.args.small c.args.most_trades c.args.points_per_bit c.in-Some-Some.low c.in-Some-Some.high
    c.judge_cash.result tells sound trades points (rw c.in-Some-Some.is-0 at evidence)
    (record { allowed = says.allowed; wrong = says.wrong; unclear = says.unclear }))
