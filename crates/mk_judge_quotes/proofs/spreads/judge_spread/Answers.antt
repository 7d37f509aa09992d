use Rattle.std.proofs.Common.{Some}
use Rattle.mk_judge.proofs.Judging.{judges_as}
use Rattle.mk_reply.specs.Refusals.{given_in}
use Rattle.mk_rules.specs.Refusals.{user_number}
use Rattle.mk_judge_quotes.proofs.SpreadingJudged.{spread_left}
use Rattle.mk_judge_quotes.proofs.spreads.judge_spread.Goals as goal

pub judge_by_quote-requires : goal.judge_by_quote-requires
judge_by_quote-requires c = record { range = c.requires.range; shares = c.requires.shares }

pub judge_afresh-requires : goal.judge_afresh-requires
judge_afresh-requires c = record { range = c.requires.range; shares = c.requires.shares }

pub returns-in-Some : goal.returns-in-Some
returns-in-Some c = λ market H name v condition its. rw c.in-Some.is
    (judges_as c.judge_by_quote.result _ _ _ _ (λ x. x) (λ x. x) (spread_left market H (user_number H name) its.spread c.args.to.now (Some (given_in c.in-Some.intervals.now)) c.args.reply.now)
    (c.judge_by_quote.ensures market H name v condition its))

pub returns-in-None : goal.returns-in-None
returns-in-None c = λ market H name v condition its. rw c.in-None.is (c.judge_afresh.ensures market H name v condition its)
