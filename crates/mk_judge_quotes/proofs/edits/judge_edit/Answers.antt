use Rattle.std.proofs.Common.{Some}
use Rattle.mk_judge.proofs.Judging.{judges_as}
use Rattle.mk_rules.specs.Refusals.{user_number}
use Rattle.mk_judge_quotes.proofs.EditingJudged.{trade_left}
use Rattle.mk_judge_quotes.proofs.edits.judge_edit.Goals as goal

pub judge_by_quote-requires : goal.judge_by_quote-requires
judge_by_quote-requires c =
    let a = c.requires in
    record { hit_range = a.hit_range; miss_range = a.miss_range; some = a.some; few = a.few }

pub judge_afresh-requires : goal.judge_afresh-requires
judge_afresh-requires c =
    let a = c.requires in
    record { hit_range = a.hit_range; miss_range = a.miss_range; some = a.some; few = a.few }

pub returns-in-Some : goal.returns-in-Some
returns-in-Some c = λ market H name q its. rw c.in-Some.is
    (judges_as c.judge_by_quote.result _ _ _ _ (λ x. x) (λ x. x) (trade_left market H (user_number H name) its.asked c.args.to (Some c.in-Some.limits) c.args.reply.now)
    (c.judge_by_quote.ensures market H name q its))

pub returns-in-None : goal.returns-in-None
returns-in-None c = λ market H name q its. rw c.in-None.is (c.judge_afresh.ensures market H name q its)
