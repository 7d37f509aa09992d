use Rattle.std.proofs.Common.{◌-◌, ap, subst, arith}
use Rattle.mk_quote.specs.declared.side.SideBounds.{SideBounds}
use Rattle.mk_judge_quotes.proofs.EditingJudged.{JudgesUnits, told_trade}
use Rattle.mk_judge_quotes.proofs.edits.judge_trade.Goals as goal

pub returns-then-at-now : goal.returns-then-at-now
returns-then-at-now c = λ market H name q its. rw (c.in-Traded.is, c.and.ensures)
    (told_trade market H name q c.args.bounds.now c.args.small c.args.now its c.args.to c.in-Traded.hit c.in-Traded.miss c.in-Traded.at c.judge_units-of_hit.result c.judge_units-of_miss.result
    (omega (arith, c.if-at-ge1.true, c.if-at-now.true))
    (subst (λ (side : SideBounds). JudgesUnits c.judge_units-of_hit.result side c.args.small
    c.args.to c.in-Traded.hit) (ap (λ (two : SideBounds × SideBounds). two.0)
    c.sides-hit_side.ensures) (record {
      allowed = c.judge_units-of_hit.ensures.allowed;
      wrong = c.judge_units-of_hit.ensures.wrong;
      unclear = c.judge_units-of_hit.ensures.unclear;
    }))
    (subst (λ (side : SideBounds). JudgesUnits c.judge_units-of_miss.result side c.args.small
    (1000000 - c.args.to) c.in-Traded.miss)
    (ap (λ (two : SideBounds × SideBounds). two.1) c.sides-hit_side.ensures) (record {
      allowed = c.judge_units-of_miss.ensures.allowed;
      wrong = c.judge_units-of_miss.ensures.wrong;
      unclear = c.judge_units-of_miss.ensures.unclear;
    })))
