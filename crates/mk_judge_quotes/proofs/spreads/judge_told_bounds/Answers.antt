use Rattle.mk_judge_quotes.proofs.SpreadingJudged.{told_bounds}
use Rattle.mk_judge_quotes.proofs.spreads.judge_told_bounds.Goals as goal

pub returns-then-at-now : goal.returns-then-at-now
returns-then-at-now c = λ market H name v condition its. rw c.in-Bounded.is
    (told_bounds market H name v condition c.args.bounds.now c.args.small c.args.now its c.in-Bounded.intervals c.in-Bounded.at c.judge_box.result c.if-at-now.true c.judge_box.ensures)
