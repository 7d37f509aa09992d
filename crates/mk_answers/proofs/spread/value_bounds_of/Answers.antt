use Rattle.std.proofs.Common.{arith}
use Rattle.mk_beliefs.specs.Meanings.{weights_of}
use Rattle.mk_answers.specs.Open.{holding_of}
use Rattle.mk_answers.proofs.Least.{is_counted}
use Rattle.mk_answers.proofs.Weights.{event_fits}
use Rattle.mk_answers.proofs.Valued.{none_found, some_value, value_found}
use Rattle.mk_answers.proofs.Regraded.{graded_within, held_grade, found_grade}
use Rattle.mk_answers.proofs.spread.value_bounds_of.Goals as goal

pub least-requires-clause-range : goal.least-requires-clause-range
least-requires-clause-range g c =
    let a = c.requires in
    record {
      holding = holding_of c.args.net.now a.tree a.history a.user;
      owns = a.owns;
      in_range = event_fits c.args.net.now c.args.asked.now c.event-event.result c.event-event.ensures.pairs a.valued.in_order.in_range;
    }

pub factor_of-requires : goal.factor_of-requires
factor_of-requires g c =
    let a = c.requires in
    some_value c.args.net.now a.tree a.history a.user a.is_open c.args.asked.now c.event-event.result c.event-event.ensures.pairs
    c.belief.result c.in-Present.part c.in-Present.is (c.belief.ensures.belief (weights_of c.args.net.now a.tree a.history) a.stands)
    _ c.least.result (c.least.ensures.least (holding_of c.args.net.now a.tree a.history a.user) a.owns)

pub returns-in-Absent-clause-found : goal.returns-in-Absent-clause-found
returns-in-Absent-clause-found g c = λ tree H u stands owns is_open.
    none_found c.args.net.now tree H u is_open c.args.asked.now c.event-event.result c.event-event.ensures.pairs
    c.belief.result c.in-Absent.is (c.belief.ensures.belief (weights_of c.args.net.now tree H) stands)

pub returns-in-Present-clause-found : goal.returns-in-Present-clause-found
returns-in-Present-clause-found g c = λ tree H u stands owns is_open.
    value_found c.args.net.now tree H u is_open c.args.asked.now c.event-event.result c.event-event.ensures.pairs
    c.belief.result c.in-Present.part c.in-Present.is (c.belief.ensures.belief (weights_of c.args.net.now tree H) stands)
    _ c.least.result (c.least.ensures.least (holding_of c.args.net.now tree H u) owns) c.factor_of.result c.factor_of.ensures (omega arith)

pub returns-in-Present-clause-counted : goal.returns-in-Present-clause-counted
returns-in-Present-clause-counted g c = λ tree H u owns is_open.
    is_counted c.args.net.now tree H u is_open _ _ c.least.result c.factor_of.result
    c.factor_of.ensures (c.least.ensures.least (holding_of c.args.net.now tree H u) owns)
    (omega arith) owns.few_in owns.few_out

pub returns-in-Present-clause-graded : goal.returns-in-Present-clause-graded
returns-in-Present-clause-graded g c = λ m h most stands owns room gains_room. (
  graded_within c.in-Present.part (g.P.Engine.grade_of m) most room
      (held_grade c.belief.result c.in-Present.part (g.P.Engine.grade_of m) c.in-Present.is
      (c.belief.ensures.graded m stands)),
  graded_within (c.factor_of.result).gain (g.A.Engine.grade_of h.meaning) most gains_room
      (found_grade c.least.result c.factor_of.result (g.A.Engine.grade_of h.meaning)
      c.factor_of.ensures (c.least.ensures.graded h owns)),
)
