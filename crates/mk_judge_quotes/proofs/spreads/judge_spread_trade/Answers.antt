use Rattle.std.proofs.Common.{arith, subst, List, ℕ}
use Rattle.mk_judge_quotes.proofs.SpreadingJudged.{JudgesFactors, told_spread}
use Rattle.mk_judge_quotes.proofs.spreads.judge_spread_trade.Goals as goal

pub returns-then-at-now : goal.returns-then-at-now
returns-then-at-now c = λ market H name v condition its. rw c.in-Spreaded.is
    (told_spread market H name v condition c.args.bounds.now c.args.small c.args.now its c.args.to.now c.in-Spreaded.factors c.in-Spreaded.at c.judge_spread_units.result
    (omega (arith, c.if-at-ge1.true, c.if-at-now.true))
    (subst (λ (Fs : List ℕ). JudgesFactors c.judge_spread_units.result c.args.bounds.now c.args.small c.args.to.now Fs) c.as_slice.ensures.value (record {
      allowed = c.judge_spread_units.ensures.allowed;
      wrong = c.judge_spread_units.ensures.wrong;
      unclear = c.judge_spread_units.ensures.unclear;
      clear = c.judge_spread_units.ensures.clear;
    })))
