use Rattle.std.proofs.Common.{None, sym, ◌∙◌}
use Rattle.std.proofs.lemmas.Bool.{false≢true}
use Rattle.mk_judge.proofs.Judging.{judges_as}
use Rattle.mk_rules.specs.Refusals.{user_number}
use Rattle.mk_judge_quotes.proofs.EditingJudged.{afresh_judged, beyond_edit, trade_left}
use Rattle.mk_judge_quotes.proofs.edits.judge_afresh.Goals as goal

pub returns-else-is_inside : goal.returns-else-is_inside
returns-else-is_inside c = λ market H name q its.
    beyond_edit market H name q c.args.bounds.now c.args.small c.args.now its c.args.to c.in-Some.limits c.args.reply.now c.judge_limits.result (sym c.beyond_told.ensures ∙ c.in-Some.is)
    (λ inside. false≢true (sym c.if-is_inside.false ∙ c.is_inside.ensures.1 inside)) (record {
      allowed = c.judge_limits.ensures.allowed;
      wrong = c.judge_limits.ensures.wrong;
      unclear = c.judge_limits.ensures.unclear;
      clear = c.judge_limits.ensures.clear;
    })

pub returns-in-None : goal.returns-in-None
returns-in-None c = λ market H name q its. judges_as c.judge_trade.result _ _ _ _ (λ x. x) (λ x. x) (trade_left market H (user_number H name) its.asked c.args.to None c.args.reply.now)
    (afresh_judged market H name q c.args.bounds.now c.args.small c.args.now its c.args.to c.args.reply.now c.judge_trade.result (sym c.beyond_told.ensures ∙ c.in-None.is)
    (c.judge_trade.ensures market H name q its))
