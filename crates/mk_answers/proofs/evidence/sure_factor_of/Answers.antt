use Rattle.std.proofs.Common.{arith}
use Rattle.mk_states.specs.Events.{with_target}
use Rattle.mk_enclose.specs.Enclosure.{widest_grade}
use Rattle.mk_answers.specs.Open.{holding_of}
use Rattle.mk_answers.proofs.Regraded.{factor_within, sure_regraded}
use Rattle.mk_answers.proofs.Sure.{sure_factor}
use Rattle.mk_answers.proofs.evidence.sure_factor_of.Goals as goal

pub returns-clause-factor : goal.returns-clause-factor
returns-clause-factor g c = λ tree H u most owns is_open room.
    let net = c.args.net.now in let h = holding_of net tree H u in
    sure_regraded net H widest_grade most u (with_target c.args.asked.now) c.least.result
    (sure_factor net tree H u is_open c.args.asked.now c.event.result c.event.ensures.pairs _
    c.least.result (c.least.ensures.least h owns) (omega arith) owns.few_in owns.few_out)
    (factor_within c.least.result (g.A.Engine.grade_of h.meaning) most room
    (c.least.ensures.graded h owns))
