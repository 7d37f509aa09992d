use Rattle.mk_judge.proofs.Spacing.{none_served, some_served}
use Rattle.mk_judge.proofs.interval.judge_none_served.Goals as goal

pub returns-in-Some-clause-wrong : goal.returns-in-Some-clause-wrong
returns-in-Some-clause-wrong c e side of exact =
    let given = c.in-Some.field-0 in
    some_served c.args.bounds.now side (given.0) (given.1) c.in-Some.ensures.in_range
    c.in-Some.ensures.serves of exact

pub returns-in-None-clause-allowed : goal.returns-in-None-clause-allowed
returns-in-None-clause-allowed c e side of exact = none_served c.args.bounds.now side
    c.in-None.ensures.serves of exact
