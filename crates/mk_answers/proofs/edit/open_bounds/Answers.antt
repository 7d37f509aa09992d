use Rattle.std.proofs.Common.{◌≡◌, ◌+◌, ◌-◌, max, refl, subst, arith}
use Rattle.mk_net.specs.Bounds.{max_values}
use Rattle.mk_states.specs.Events.{with_target, without_target}
use Rattle.mk_exact.specs.Weight.{total, IsSmall}
use Rattle.mk_enclose.specs.Enclosure.{HasGrade}
use Rattle.mk_beliefs.specs.Meanings.{gains_of}
use Rattle.mk_answers.specs.Open.{holding_of}
use Rattle.mk_answers.proofs.Homes.{question_is_held}
use Rattle.mk_answers.proofs.Weights.{event_fits}
use Rattle.mk_answers.proofs.Presence.{present_comes}
use Rattle.mk_answers.proofs.Bounding.{can_ask, room_of_gains, sum_fits, some_hit, some_miss, hit_for, miss_for, are_bounds}
use Rattle.mk_answers.proofs.Least.{is_counted}
use Rattle.mk_answers.proofs.Regraded.{graded_within, found_grade}
use Rattle.mk_answers.proofs.edit.open_bounds.Goals as goal

pub least-hit_factor-requires-clause-held : goal.least-hit_factor-requires-clause-held
least-hit_factor-requires-clause-held g c =
    let a = c.requires in
    g.met.A.Engine.held_is_answered c.args.assets.now.engine
    (gains_of a.network a.tree a.history a.asks.user) c.args.at c.event.result a.asks.owns.stands
    (question_is_held a.tree c.args.at c.args.asked.now c.event.result c.event.ensures.pairs
    a.asks.held)

pub least-hit_factor-requires-clause-range : goal.least-hit_factor-requires-clause-range
least-hit_factor-requires-clause-range g c =
    let a = c.requires in
    record {
      holding = holding_of a.network a.tree a.history a.asks.user;
      owns = a.asks.owns;
      in_range = event_fits a.network c.args.asked.now c.event.result c.event.ensures.pairs
          a.asks.answered.in_order.in_range;
    }

pub least_of_others-miss_factor-requires : goal.least_of_others-miss_factor-requires
least_of_others-miss_factor-requires g c =
    let a = c.requires in let asked = c.args.asked.now in let h = holding_of a.network a.tree
    a.history a.asks.user in
    can_ask a.network a.tree a.history a.asks.user a.asks.is_open asked a.asks.answered
    g.A.Engine.stands_for
    c.least-hit_factor.new.self.engine h.meaning c.args.at c.args.values
    (c.least-hit_factor.ensures.kept h a.asks.owns).stands refl refl a.asks.held
    (room_of_gains a.network a.tree a.history a.asks.user a.asks.is_open asked a.asks.answered)
    a.sized

pub add-requires : goal.add-requires
add-requires g c =
    let a = c.requires in let asked = c.args.asked.now in
    sum_fits c.args.hit.now c.args.miss.now (IsSmall a.network a.history) (total a.network a.history (with_target asked)) (total a.network a.history (without_target asked)) a.part a.rest

pub factor_of-requires : goal.factor_of-requires
factor_of-requires g c =
    let a = c.requires in let asked = c.args.asked.now in
    some_hit a.network a.tree a.history a.asks.user a.asks.is_open asked a.asks.answered
    c.event.result c.event.ensures.pairs _ c.least-hit_factor.result
    (c.least-hit_factor.ensures.least (holding_of a.network a.tree a.history a.asks.user)
    a.asks.owns)
    (present_comes a.network a.history (with_target asked) c.args.hit.now a.part.encloses)

pub factor_of-requires-2 : goal.factor_of-requires-2
factor_of-requires-2 g c =
    let a = c.requires in let asked = c.args.asked.now in let h = holding_of a.network a.tree
    a.history a.asks.user in
    some_miss a.network a.tree a.history a.asks.user a.asks.is_open asked a.asks.answered
    c.args.values a.sized _ c.least_of_others-miss_factor.result
    (c.least_of_others-miss_factor.ensures.least h (c.least-hit_factor.ensures.kept h a.asks.owns)
    a.sized)
    (present_comes a.network a.history (without_target asked) c.args.miss.now a.rest.encloses)

pub returns-clause-kept_assets : goal.returns-clause-kept_assets
returns-clause-kept_assets g c = λ h owns. c.least_of_others-miss_factor.ensures.kept h (c.least-hit_factor.ensures.kept h owns)

pub returns-clause-bounds : goal.returns-clause-bounds
returns-clause-bounds g c = λ network tree H u on_hit on_miss owns is_open answered sized part rest sides.
    let asked = c.args.asked.now in let h = holding_of network tree H u in
    are_bounds network H u asked c.args.hit.now c.args.miss.now c.add.result c.factor_of.result c.factor_of-2.result part rest
    (record { encloses = c.add.ensures.encloses; grade = c.add.ensures.grade; exact = c.add.ensures.exact })
    (hit_for network tree H u is_open asked answered c.event.result c.event.ensures.pairs _ c.least-hit_factor.result
    (c.least-hit_factor.ensures.least h owns) c.factor_of.result c.factor_of.ensures (omega arith))
    (miss_for network tree H u is_open asked answered c.args.values sized _ c.least_of_others-miss_factor.result
    (c.least_of_others-miss_factor.ensures.least h (c.least-hit_factor.ensures.kept h owns) sized) c.factor_of-2.result c.factor_of-2.ensures (omega arith))
    on_hit on_miss sides

pub returns-clause-hit_counted : goal.returns-clause-hit_counted
returns-clause-hit_counted g c = λ network tree H u owns is_open.
    let h = holding_of network tree H u in
    is_counted network tree H u is_open _ _ c.least-hit_factor.result c.factor_of.result
    c.factor_of.ensures (c.least-hit_factor.ensures.least h owns) (omega arith) owns.few_in
    owns.few_out

pub returns-clause-miss_counted : goal.returns-clause-miss_counted
returns-clause-miss_counted g c = λ network tree H u owns is_open sized.
    let h = holding_of network tree H u in
    is_counted network tree H u is_open _ _ c.least_of_others-miss_factor.result
    c.factor_of-2.result c.factor_of-2.ensures
    (c.least_of_others-miss_factor.ensures.least h (c.least-hit_factor.ensures.kept h owns) sized)
    (omega arith) owns.few_in owns.few_out

pub returns-clause-weights : goal.returns-clause-weights
returns-clause-weights g c = λ n of_hit of_miss.
    let same : max n n + 1 ≡ n + 1 = omega arith in
    record {
      hit = of_hit;
      miss = of_miss;
      whole = subst (HasGrade c.add.result) same (c.add.ensures.grade n n of_hit of_miss);
    }

pub returns-clause-gains : goal.returns-clause-gains
returns-clause-gains g c = λ h owns sized.
    let of = g.A.Engine.grade_of h.meaning in record {
      hit = graded_within (c.factor_of.result).gain of (of + max_values) (omega arith)
          (found_grade c.least-hit_factor.result c.factor_of.result of c.factor_of.ensures
          (c.least-hit_factor.ensures.graded h owns));
      miss = graded_within (c.factor_of-2.result).gain (of + (max_values - 1)) (of + max_values)
          (omega arith) (found_grade c.least_of_others-miss_factor.result c.factor_of-2.result
          (of + (max_values - 1)) c.factor_of-2.ensures
          (c.least_of_others-miss_factor.ensures.graded h
          (c.least-hit_factor.ensures.kept h owns) sized));
    }
