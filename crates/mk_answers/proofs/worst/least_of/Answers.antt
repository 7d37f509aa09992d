use Rattle.std.proofs.Common.{arith}
use Rattle.mk_net.specs.Bounds.{max_market_trades}
use Rattle.mk_states.specs.Events.{always}
use Rattle.mk_exact.proofs.ExistMarkets.{least_gain_exists}
use Rattle.mk_enclose.specs.Enclosure.{widest_grade}
use Rattle.mk_beliefs.specs.Meanings.{gains_of}
use Rattle.mk_answers.specs.Open.{holding_of}
use Rattle.mk_answers.proofs.Counted.{least_factor}
use Rattle.mk_answers.proofs.Homes.{nothing_at_root}
use Rattle.mk_answers.proofs.Least.{some_worst, worst_for, worst_idle, worst_counted, worst_cash}
use Rattle.mk_answers.proofs.Least.{worst_in_range}
use Rattle.mk_answers.proofs.Regraded.{graded_within, found_grade, least_regraded}
use Rattle.mk_answers.proofs.worst.least_of.Goals as goal

pub least-requires-clause-held : goal.least-requires-clause-held
least-requires-clause-held g c =
    let a = c.requires in
    g.met.A.Engine.held_is_answered c.args.assets.now.engine
    (gains_of a.network a.tree a.history a.user) 1 c.empty.result a.owns.stands
    (nothing_at_root a.tree c.empty.result c.empty.ensures a.is_open.tree_of_it.linked.some)

pub factor_of-requires : goal.factor_of-requires
factor_of-requires g c =
    let a = c.requires in
    some_worst a.network a.tree a.history a.user a.is_open c.empty.result c.empty.ensures _ c.least.result (c.least.ensures.least (holding_of a.network a.tree a.history a.user) a.owns)

pub returns-clause-least : goal.returns-clause-least
returns-clause-least g c = λ network tree H most_trades u gain owns is_open fit is_least.
    worst_for network tree H u is_open c.empty.result c.empty.ensures _ c.least.result (c.least.ensures.least (holding_of network tree H u) owns)
    c.factor_of.result c.factor_of.ensures (omega arith) most_trades fit gain is_least

pub returns-clause-idle : goal.returns-clause-idle
returns-clause-idle g c = λ network tree H u owns is_open none.
    worst_idle network tree H u is_open c.empty.result c.empty.ensures _ c.least.result
    (c.least.ensures.least (holding_of network tree H u) owns)
    c.factor_of.result c.factor_of.ensures (omega arith) none

pub returns-clause-range : goal.returns-clause-range
returns-clause-range g c =
    let a = c.requires in
    worst_in_range a.network a.tree a.history a.user a.is_open c.empty.result c.empty.ensures _ c.least.result (c.least.ensures.least (holding_of a.network a.tree a.history a.user) a.owns)
    c.factor_of.result c.factor_of.ensures (omega arith) a.owns.few_in a.owns.few_out

pub returns-clause-judged : goal.returns-clause-judged
returns-clause-judged g c = λ network tree H u most owns is_open room.
    let has = least_gain_exists network H u is_open.legal is_open.proper in
    let h = holding_of network tree H u in let least = c.least.ensures.least h owns in
    let of = g.A.Engine.grade_of h.meaning in
    least_regraded network H widest_grade most u c.factor_of.result
    (graded_within (c.factor_of.result).gain of most room
    (found_grade c.least.result c.factor_of.result of c.factor_of.ensures
    (c.least.ensures.graded h owns))) always
    (least_factor network H u always has.least has.is_least c.factor_of.result
    (worst_counted network tree H u is_open c.empty.result c.empty.ensures _ c.least.result least
    c.factor_of.result c.factor_of.ensures (omega arith) owns.few_in owns.few_out)
    (worst_for network tree H u is_open c.empty.result c.empty.ensures _ c.least.result least
    c.factor_of.result c.factor_of.ensures (omega arith) max_market_trades
    is_open.within.few_trades has.least has.is_least)
    (worst_cash network tree H u is_open c.empty.result c.empty.ensures _ c.least.result least
    c.factor_of.result c.factor_of.ensures (omega arith) owns.few_in owns.few_out))
