use Rattle.std.proofs.Common.{None, sym, ap, ◌∙◌}
use Rattle.std.specs.Prelude.{option_copied}
use Rattle.std.proofs.lemmas.Bool.{false≢true}
use Rattle.mk_judge.proofs.Judging.{judges_as}
use Rattle.mk_rules.specs.Refusals.{user_number}
use Rattle.mk_judge_quotes.proofs.SpreadingJudged.{anew_judged, outside_spread, spread_left}
use Rattle.mk_judge_quotes.proofs.spreads.judge_afresh.Goals as goal

pub returns-else-are_inside : goal.returns-else-are_inside
returns-else-are_inside c = λ market H name v condition its.
    outside_spread market H name v condition c.args.bounds.now c.args.small c.args.now its c.args.to.now c.in-Some.intervals.now c.args.reply.now c.judge_box.result
    (sym c.outside_told.ensures ∙ ap option_copied c.in-Some.is) (λ inside. false≢true (sym c.if-are_inside.false ∙ c.are_inside.ensures.1 inside)) c.judge_box.ensures

pub returns-in-None : goal.returns-in-None
returns-in-None c = λ market H name v condition its. judges_as c.judge_spread_trade.result _ _ _ _ (λ x. x) (λ x. x)
    (spread_left market H (user_number H name) its.spread c.args.to.now None c.args.reply.now)
    (anew_judged market H name v condition c.args.bounds.now c.args.small c.args.now its c.args.to.now c.args.reply.now c.judge_spread_trade.result
    (sym c.outside_told.ensures ∙ ap option_copied c.in-None.is) (c.judge_spread_trade.ensures market H name v condition its))
