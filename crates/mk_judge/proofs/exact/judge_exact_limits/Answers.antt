use Rattle.mk_judge.proofs.Exactly.{exactly_right, one_pair}
use Rattle.mk_judge.proofs.exact.judge_exact_limits.Goals as goal

pub returns-clause-allowed : goal.returns-clause-allowed
returns-clause-allowed c e hit miss holds exact =
    rw (← (rw e at c.judge_same.ensures))
    (exactly_right c.args.bounds.now c.limits.result c.limits.ensures.right hit miss holds exact)

pub returns-clause-wrong : goal.returns-clause-wrong
returns-clause-wrong c e hit miss holds exact right =
    (rw e at c.judge_same.ensures)
    (one_pair hit miss c.limits.result c.args.limits
    (exactly_right c.args.bounds.now c.limits.result c.limits.ensures.right hit miss holds exact)
    right)
