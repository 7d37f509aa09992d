use Rattle.mk_judge_quotes.proofs.EditingJudged.{told_limits}
use Rattle.mk_judge_quotes.proofs.edits.judge_told_limits.Goals as goal

pub returns-then-at-now : goal.returns-then-at-now
returns-then-at-now c = λ market H name q its. rw c.in-Limits.is
    (told_limits market H name q c.args.bounds.now c.args.small c.args.now its c.in-Limits.limits c.in-Limits.at c.judge_limits.result c.if-at-now.true (record {
      allowed = c.judge_limits.ensures.allowed;
      wrong = c.judge_limits.ensures.wrong;
      unclear = c.judge_limits.ensures.unclear;
      clear = c.judge_limits.ensures.clear;
    }))
