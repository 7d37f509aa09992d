use Rattle.std.proofs.Common.{◌≡◌, Some}
use Rattle.mk_judge.proofs.Spacing.{served_right, one_right}
use Rattle.mk_judge.proofs.interval.judge_exact_interval.Goals as goal

pub returns-clause-allowed : goal.returns-clause-allowed
returns-clause-allowed c e side of exact =
    let same : c.interval.result ≡ Some (c.args.low, c.args.high) = rw e at c.judge_same.ensures in
    served_right c.args.bounds.now side c.args.low c.args.high (rw same at c.interval.ensures.in_range)
    (rw same at c.interval.ensures.serves) of exact

pub returns-clause-wrong : goal.returns-clause-wrong
returns-clause-wrong c e side of exact right =
    (rw e at c.judge_same.ensures)
    (one_right c.args.bounds.now side c.interval.result c.args.low c.args.high
    c.interval.ensures.in_range c.interval.ensures.serves of exact right)
