use Rattle.std.proofs.Common.{◌≡◌, ℕ, ◌+◌, ◌-◌, List, slice_index, ap, ◌∙◌, arith}
use Rattle.mk_net.specs.Bounds.{max_values}
use Rattle.mk_net.specs.declared.words.Pair.{Pair}
use Rattle.mk_net.specs.Asked.{Asked}
use Rattle.mk_net.specs.Events.{pairs_asked}
use Rattle.mk_net.specs.Network.{Variable, sizes}
use Rattle.mk_states.specs.Events.{with_target, without_target}
use Rattle.mk_exact.specs.History.{Entry}
use Rattle.mk_quote.specs.Bounds.{hit_side, miss_side}
use Rattle.mk_semiring.specs.declared.held.Held.{Held}
use Rattle.mk_semiring.specs.Held.{HeldEncloses, HasHeldGrade, IsHeldExact, held_grade_more}
use Rattle.mk_tree.specs.Given.{GivenTree}
use Rattle.mk_enclose.specs.Enclosure.{widest_grade}
use Rattle.mk_engine.specs.Cases.{IsOthersBelief}
use Rattle.mk_beliefs.specs.Meanings.{weights_of}
use Rattle.mk_answers.specs.Open.{IsOpen, CanBeAnswered, holding_of}
use Rattle.mk_answers.specs.inner.Found.{AreSidesIn}
use Rattle.mk_answers.proofs.Weights.{IsWeightOf, sides_in}
use Rattle.mk_answers.proofs.Bounding.{can_ask_weights}
use Rattle.mk_answers.proofs.Coming.{hit_present, miss_present, both_come, neither_comes, target_never, target_sure}
use Rattle.mk_answers.proofs.Counted.{side_bounded}
use Rattle.mk_answers.proofs.Regraded.{graded_within, within_more, held_grade, side_regraded}
use Rattle.mk_answers.proofs.edit.bounds_of.Given.{Over}
use Rattle.mk_answers.proofs.edit.bounds_of.Goals as goal
use Rattle.mk_answers.proofs.edit.bounds_of.Goals.{After-belief_of_others-miss}

-- the values of the target that was asked for are those of the question's variable
sized_as : (network : List Variable) (asked : Asked) (target : Pair) (values : ℕ) → target ≡ asked.target → values ≡ slice_index (sizes network) target.variable
    → values ≡ slice_index (sizes network) asked.target.variable
sized_as network asked target values is sized = sized ∙ ap (λ (p : Pair). slice_index (sizes network) p.variable) is

-- what both beliefs are in, where that in the other values is of so many
found_in : (network : List Variable) (tree : GivenTree) (H : List Entry) → IsOpen network tree H
    → (asked : Asked) → CanBeAnswered network tree H asked
    → (target : Pair) (event : List Pair) (part rest : Held) (values : ℕ) → target ≡ asked.target
    → event ≡ pairs_asked asked → values ≡ slice_index (sizes network) target.variable
    → IsWeightOf network tree H event part
    → (values ≡ slice_index (sizes network) asked.target.variable
    → IsOthersBelief HeldEncloses HasHeldGrade IsHeldExact ◌+◌ (weights_of network tree H) asked
    values rest)
    → AreSidesIn network H asked part rest
found_in network tree H is_open asked answered target event part rest values is its_pairs sized
    on_part on_rest =
    let own = sized_as network asked target values is sized in
    sides_in network tree H is_open asked event part rest values its_pairs
    answered.in_order.in_range own on_part (on_rest own)

-- what both beliefs that were found are in
sides_at : (g : Over) (c : After-belief_of_others-miss g) (tree : GivenTree) (H : List Entry)
    → g.P.Engine.stands_for c.args.prices.now (weights_of c.args.net.now tree H)
    → IsOpen c.args.net.now tree H → CanBeAnswered c.args.net.now tree H c.args.asked.now
    → AreSidesIn c.args.net.now H c.args.asked.now c.belief-hit.result c.belief_of_others-miss.result
sides_at g c tree H stands is_open answered =
    let network = c.args.net.now in let m = weights_of network tree H in
    found_in network tree H is_open c.args.asked.now answered c.target.result c.event.result
    c.belief-hit.result c.belief_of_others-miss.result c.values-values.result c.target.ensures
    c.event.ensures.pairs c.values-values.ensures (c.belief-hit.ensures.belief m stands)
    (c.belief_of_others-miss.ensures.belief m (c.belief-hit.ensures.kept m stands))

pub belief_of_others-miss-requires : goal.belief_of_others-miss-requires
belief_of_others-miss-requires g c =
    let a = c.requires in let network = c.args.net.now in let asked = c.args.asked.now in let m = weights_of network a.tree a.history in
    can_ask_weights network a.tree a.history a.user a.is_open asked a.answered
    g.P.Engine.stands_for c.belief-hit.new.self c.args.at c.values-values.result
    (c.belief-hit.ensures.kept m a.stands) a.held
    (sized_as network asked c.target.result c.values-values.result c.target.ensures c.values-values.ensures)

pub open_bounds-requires : goal.open_bounds-requires
open_bounds-requires g c =
    let a = c.requires in let network = c.args.net.now in let asked = c.args.asked.now in
    let sized = sized_as network asked c.target.result c.values-values.result c.target.ensures c.values-values.ensures in
    let sides = sides_at g (goal.at.open_bounds-requires g c).After-belief_of_others-miss
    a.tree a.history a.stands a.is_open a.answered in
    record {
      network = network;
      tree = a.tree;
      history = a.history;
      asks = record {
        user = a.user;
        owns = a.owns;
        is_open = a.is_open;
        answered = a.answered;
        held = a.held;
      };
      sized = sized;
      part = hit_present network a.history asked c.belief-hit.result c.belief_of_others-miss.result sides c.in-Present-Present.hit c.in-Present-Present.is-0;
      rest = miss_present network a.history asked c.belief-hit.result c.belief_of_others-miss.result sides c.in-Present-Present.miss c.in-Present-Present.is-1;
    }

pub returns-in-Present-Present-clause-kept : goal.returns-in-Present-Present-clause-kept
returns-in-Present-Present-clause-kept g c = λ m stands. c.belief_of_others-miss.ensures.kept m (c.belief-hit.ensures.kept m stands)

pub returns-in-Present-Present-clause-sides : goal.returns-in-Present-Present-clause-sides
returns-in-Present-Present-clause-sides g c = λ tree H u stands owns is_open answered.
    let network = c.args.net.now in let asked = c.args.asked.now in
    let sized = sized_as network asked c.target.result c.values-values.result c.target.ensures c.values-values.ensures in
    let sides = sides_at g (goal.at.returns-in-Present-Present-clause-sides g c).After-belief_of_others-miss
    tree H stands is_open answered in
    let hit = c.in-Present-Present.hit in let miss = c.in-Present-Present.miss in (
      both_come network H asked c.belief-hit.result c.belief_of_others-miss.result sides hit miss c.in-Present-Present.is-0 c.in-Present-Present.is-1,
      λ on_hit on_miss both. c.open_bounds.ensures.bounds network tree H u on_hit on_miss owns is_open answered sized
          (hit_present network H asked c.belief-hit.result c.belief_of_others-miss.result sides hit c.in-Present-Present.is-0)
          (miss_present network H asked c.belief-hit.result c.belief_of_others-miss.result sides miss c.in-Present-Present.is-1) both,
    )

pub returns-in-Present-Present-clause-bounded : goal.returns-in-Present-Present-clause-bounded
returns-in-Present-Present-clause-bounded g c = λ tree H u most stands owns is_open answered room
    gains_room.
    let network = c.args.net.now in let asked = c.args.asked.now in
    let m = weights_of network tree H in
    let sized = sized_as network asked c.target.result c.values-values.result c.target.ensures
    c.values-values.ensures in
    let sides = sides_at g (goal.at.returns-in-Present-Present-clause-bounded g c).After-belief_of_others-miss
    tree H stands is_open answered in
    let hit = hit_present network H asked c.belief-hit.result c.belief_of_others-miss.result sides
    c.in-Present-Present.hit c.in-Present-Present.is-0 in
    let miss = miss_present network H asked c.belief-hit.result c.belief_of_others-miss.result sides
    c.in-Present-Present.miss c.in-Present-Present.is-1 in
    let bounds = c.open_bounds.result in
    let of = g.P.Engine.grade_of m in
    let weights = c.open_bounds.ensures.weights (of + (max_values - 1))
    (held_grade c.belief-hit.result c.in-Present-Present.hit (of + (max_values - 1))
    c.in-Present-Present.is-0 (held_grade_more c.belief-hit.result of (of + (max_values - 1))
    (c.belief-hit.ensures.graded m stands) (omega arith)))
    (held_grade c.belief_of_others-miss.result c.in-Present-Present.miss (of + (max_values - 1))
    c.in-Present-Present.is-1 (c.belief_of_others-miss.ensures.graded m
    (c.belief-hit.ensures.kept m stands) sized)) in
    let gains = c.open_bounds.ensures.gains (holding_of network tree H u) owns sized in
    record {
      hit = λ on_hit on_miss both.
          let are = c.open_bounds.ensures.bounds network tree H u on_hit on_miss owns is_open
          answered sized hit miss both in
          side_regraded network H widest_grade most u (hit_side bounds) on_hit
          (side_bounded network H u asked (with_target asked) (hit_side bounds) on_hit both.hit_side
          (c.open_bounds.ensures.hit_counted network tree H u owns is_open) are.sides.of_hit
          are.graded.hit (λ s. (are.exact s).hit)) (record {
            part = graded_within bounds.hit (of + (max_values - 1)) most (omega arith) weights.hit;
            whole = graded_within bounds.whole (of + (max_values - 1) + 1) most (omega (arith, room))
                weights.whole;
            gain = within_more (bounds.hit_factor).gain _ most gains_room gains.hit;
          });
      miss = λ on_hit on_miss both.
          let are = c.open_bounds.ensures.bounds network tree H u on_hit on_miss owns is_open
          answered sized hit miss both in
          side_regraded network H widest_grade most u (miss_side bounds) on_miss
          (side_bounded network H u asked (without_target asked) (miss_side bounds) on_miss
          both.miss_side
          (c.open_bounds.ensures.miss_counted network tree H u owns is_open sized)
          are.sides.of_miss are.graded.miss (λ s. (are.exact s).miss)) (record {
            part = graded_within bounds.miss (of + (max_values - 1)) most (omega arith) weights.miss;
            whole = graded_within bounds.whole (of + (max_values - 1) + 1) most (omega (arith, room))
                weights.whole;
            gain = within_more (bounds.miss_factor).gain _ most gains_room gains.miss;
          });
    }

pub returns-in-Present-Absent-clause-sides : goal.returns-in-Present-Absent-clause-sides
returns-in-Present-Absent-clause-sides g c = λ tree H u stands owns is_open answered.
    let at = goal.at.returns-in-Present-Absent-clause-sides g c in let both = c.in-Present-Absent in
    target_sure _ H _ _ _ (sides_at g at.After-belief_of_others-miss tree H stands is_open answered)
    is_open.legal is_open.proper both.field-0-0 both.is-0 both.is-1

pub returns-in-Absent-Absent-clause-sides : goal.returns-in-Absent-Absent-clause-sides
returns-in-Absent-Absent-clause-sides g c = λ tree H u stands owns is_open answered.
    let at = goal.at.returns-in-Absent-Absent-clause-sides g c in let both = c.in-Absent-Absent in
    neither_comes _ H _ _ _ (sides_at g at.After-belief_of_others-miss tree H stands is_open answered)
    is_open.legal is_open.proper both.is-0 both.is-1

pub returns-in-Absent-Present-clause-sides : goal.returns-in-Absent-Present-clause-sides
returns-in-Absent-Present-clause-sides g c = λ tree H u stands owns is_open answered.
    let at = goal.at.returns-in-Absent-Present-clause-sides g c in let both = c.in-Absent-Present in
    target_never _ H _ _ _ (sides_at g at.After-belief_of_others-miss tree H stands is_open answered)
    is_open.legal is_open.proper both.field-0-1 both.is-0 both.is-1
