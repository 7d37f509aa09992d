use Rattle.std.specs.Bool.{⊤}
use Rattle.mk_judge.proofs.Righting.{not_small}
use Rattle.mk_judge.proofs.Spacing.{interval_for_case}
use Rattle.mk_judge.proofs.interval.judge_interval.Goals as goal

pub returns-then-small-clause-allowed : goal.returns-then-small-clause-allowed
returns-then-small-clause-allowed c e side is =
    interval_for_case ⊤ _ side (c.args.low, c.args.high) (λ _. tt)
    (c.judge_exact_interval.ensures.allowed e side is.bounds_of (is.exact c.if-small.true))

pub returns-then-small-clause-wrong : goal.returns-then-small-clause-wrong
returns-then-small-clause-wrong c e side is right =
    c.judge_exact_interval.ensures.wrong e side is.bounds_of (is.exact c.if-small.true)
    (interval_for_case _ ⊤ side (c.args.low, c.args.high) (λ _. c.if-small.true) right)

pub returns-else-small-clause-allowed : goal.returns-else-small-clause-allowed
returns-else-small-clause-allowed c e side is =
    interval_for_case ⊥ _ side (c.args.low, c.args.high) (not_small c.args.small c.if-small.false)
    (rw e at (c.judge_large_interval.ensures side (rw c.if-small.false at is)))

pub returns-else-small-clause-wrong : goal.returns-else-small-clause-wrong
returns-else-small-clause-wrong c e side is right =
    (rw e at (c.judge_large_interval.ensures side (rw c.if-small.false at is)))
    (interval_for_case _ ⊥ side (c.args.low, c.args.high) (λ none. absurd none) right)
