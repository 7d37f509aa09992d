-- The bounds of a question in a market in use.
use Rattle.std.proofs.Common.{◌≡◌, ℕ, ◌+◌, ◌-◌, ◌^◌, ◌<◌, ◌≤◌, max, Bool, false, List, length}
use Rattle.std.proofs.Common.{slice_index, Option, Some, None, IsSome, IsSomeAnd, not, refl, sym}
use Rattle.std.proofs.Common.{ap, subst, ◌∙◌, arith}
use Rattle.std.specs.Prelude.{◌&&◌}
use Rattle.std.proofs.lemmas.List.Filters.{sum_by-filter_both}
use Rattle.mk_net.specs.declared.words.Pair.{Pair}
use Rattle.mk_net.specs.Asked.{Asked}
use Rattle.mk_net.specs.Bounds.{max_market_trades, max_values, grade_room}
use Rattle.mk_net.specs.Events.{pairs_asked}
use Rattle.mk_net.specs.Network.{Variable, sizes}
use Rattle.mk_states.specs.Events.{holds, with_target, without_target}
use Rattle.mk_exact.specs.Factors.{factor_with, least_gain}
use Rattle.mk_exact.specs.History.{Entry}
use Rattle.mk_states.specs.InitialWeight.{all_states}
use Rattle.mk_exact.specs.Limits.{Side}
use Rattle.mk_exact.specs.Prices.{price_where}
use Rattle.mk_exact.specs.Sides.{IsSide, AreSides}
use Rattle.mk_exact.specs.Weight.{weight, total, is_possible, cannot_come, IsSmall}
use Rattle.mk_states.proofs.Shares.{few_values_at}
use Rattle.mk_cell.specs.Least.{least}
use Rattle.mk_tree.specs.Given.{GivenTree}
use Rattle.mk_tree.specs.Held.{IsHeldAt}
use Rattle.mk_scaled.specs.Range.{IsInRange}
use Rattle.mk_enclose.specs.declared.enclosure.Enclosure.{Enclosure}
use Rattle.mk_enclose.specs.declared.factor.Factor.{Factor}
use Rattle.mk_enclose.specs.Enclosure.{upper_of, Encloses, HasGrade, IsExact, IsGradedWithin}
use Rattle.mk_enclose.specs.Enclosure.{widest_grade}
use Rattle.mk_semiring.specs.declared.held.Held.{Held}
use Rattle.mk_semiring.specs.declared.held.Held.TheVariants.{Present}
use Rattle.mk_semiring.specs.Held.{held_plus_fits}
use Rattle.mk_engine.specs.Meaning.{Meaning, exact_belief, max_factors, max_grade}
use Rattle.mk_engine.specs.Cases.{exact_others, CanAskOthers}
use Rattle.mk_quote.specs.declared.side.SideBounds.{SideBounds}
use Rattle.mk_quote.specs.Sides.{AreBoundsOf, AreGraded, AreExact}
use Rattle.mk_beliefs.specs.Meanings.{weights_of, gains_of, if_present}
use Rattle.mk_beliefs.proofs.Gained.{belief_is_least, others_are_least, target_is_least}
use Rattle.mk_beliefs.proofs.Grown.{factors_are_few}
use Rattle.mk_beliefs.proofs.Weighed.{cases_are_all}
use Rattle.mk_assets.specs.Holdings.{IsLeastFactor}
use Rattle.mk_answers.specs.Open.{IsOpen, CanBeAnswered, AreBoundsFor, IsFactorFor, holding_of}
use Rattle.mk_answers.specs.inner.Found.{IsBeliefIn, IsFoundOf, IsPartFor, IsWholeFor, max_side_grade}
use Rattle.mk_answers.proofs.Least.{present_is, some_least, factor_for}
use Rattle.mk_answers.proofs.Presence.{least_where}
use Rattle.mk_answers.proofs.Regraded.{within_more}
use Rattle.mk_answers.proofs.Room.{room_at_most, room_positive}

-- ---- the whole of two sides

-- what `add` promises of two enclosures
pub record IsSumOf (a b sum : Enclosure) : Type 0 where
  pub encloses : (v w : ℕ) → Encloses a v → Encloses b w → Encloses sum (v + w)
  pub grade : (g h : ℕ) → HasGrade a g → HasGrade b h → HasGrade sum (max g h + 1)
  pub exact : IsExact a → IsExact b → upper_of a + upper_of b < 2 ^ 63 → IsExact sum

-- a belief whose value is known
pub at_value : (small : Type 0) (n : ℕ) (a b : Held) → a ≡ b → IsBeliefIn a small n → IsBeliefIn b small n
at_value small n a b e h = subst (λ (x : Held). IsBeliefIn x small n) e h

pub sum_fits : (a b : Enclosure) (small : Type 0) (v w : ℕ) → IsBeliefIn (Present a) small v → IsBeliefIn (Present b) small w → IsInRange (upper_of a + upper_of b)
sum_fits a b small v w a_in b_in = held_plus_fits (Present a) (Present b) max_side_grade a_in.grade b_in.grade (omega arith)

pub found_of : (e : Enclosure) (small : Type 0) (n : ℕ) → IsBeliefIn (Present e) small n → IsFoundOf e small n
found_of e small n b = record { encloses = b.encloses; graded = record { grade = max_side_grade; small = omega arith; has = b.grade.0 }; exact = b.exact }

sum_found : (a b sum : Enclosure) (small : Type 0) (v w n : ℕ) → IsSumOf a b sum → IsBeliefIn (Present a) small v → IsBeliefIn (Present b) small w
    → v + w ≡ n → (small → n < 2 ^ 63) → IsFoundOf sum small n
sum_found a b sum small v w n is a_in b_in e fits = record {
  encloses = subst (Encloses sum) e (is.encloses v w a_in.encloses b_in.encloses);
  graded = record { grade = max max_side_grade max_side_grade + 1; small = omega arith; has = is.grade max_side_grade max_side_grade a_in.grade.0 b_in.grade.0 };
  exact = λ s. is.exact (a_in.exact s) (b_in.exact s) (upper s);
}
  where
    at_top : (x : Enclosure) (m : ℕ) → Encloses x m → IsExact x → upper_of x ≤ m
    at_top x m h exact = omega (arith, h.lower, exact.same)

    upper : small → upper_of a + upper_of b < 2 ^ 63
    upper s = let p = at_top a v a_in.encloses (a_in.exact s) in let q = at_top b w b_in.encloses (b_in.exact s) in let l = fits s in omega arith

-- where both leave room for a step more there is room for the sum
pub sum_graded : (a b sum : Enclosure) → IsSumOf a b sum → (most_trades : ℕ)
    → HasGrade a (grade_room most_trades - 1) → HasGrade b (grade_room most_trades - 1)
    → IsGradedWithin sum (grade_room most_trades)
sum_graded a b sum is most_trades on_a on_b = record {
  grade = max (grade_room most_trades - 1) (grade_room most_trades - 1) + 1;
  small = one_more (grade_room most_trades) (room_positive most_trades);
  has = is.grade (grade_room most_trades - 1) (grade_room most_trades - 1) on_a on_b;
}
  where
    one_more : (room : ℕ) → 1 ≤ room → max (room - 1) (room - 1) + 1 ≤ room
    one_more room some = omega arith

-- the states that pass a test weigh no more than all
total_small : (network : List Variable) (H : List Entry) (event : List Pair) → IsSmall network H → total network H (holds event) < 2 ^ 63
total_small network H event small =
    let both = sum_by-filter_both (λ s. is_possible H s && holds event s) (λ s. not (is_possible H s && holds event s)) (λ s. refl) (weight network H) (all_states network) in
    omega (arith, both, small)

-- both sides together weigh what the condition does
pub sum_is_whole : (network : List Variable) (H : List Entry) (asked : Asked) (hit miss whole : Enclosure) → IsPartFor network H asked hit
    → IsBeliefIn (Present miss) (IsSmall network H) (total network H (without_target asked)) → IsSumOf hit miss whole → IsWholeFor network H asked whole
sum_is_whole network H asked hit miss whole hit_in miss_in is =
    sum_found hit miss whole (IsSmall network H) _ _ (total network H (holds asked.condition)) is hit_in miss_in (cases_are_all network H asked) (total_small network H asked.condition)

-- ---- one side

-- a side's own price and factor
pub side_parts : (network : List Variable) (H : List Entry) (u : ℕ) (asked : Asked) (test : List ℕ → Bool) (side : Side) → IsSide network H u asked test side
    → (g : ℕ) × (least_gain network H u test ≡ Some g) × (side ≡ record { price = price_where network H asked.condition test; least = factor_with H u g })
side_parts network H u asked test side h = at (least_gain network H u test) h
  where
    at : (o : Option ℕ) → IsSomeAnd o (λ g. side ≡ record { price = price_where network H asked.condition test; least = factor_with H u g })
        → (g : ℕ) × (o ≡ Some g) × (side ≡ record { price = price_where network H asked.condition test; least = factor_with H u g })
    at None h = absurd h
    at (Some g) e = (g, refl, e)

-- the bounds of one side
pub record BoundsSide (bounds : SideBounds) (small : Type 0) (side : Side) : Type 0 where
  pub bounded : AreBoundsOf bounds side
  pub graded : AreGraded bounds
  pub exact : small → AreExact bounds

module _ (network : List Variable) (H : List Entry) (u : ℕ) (asked : Asked) (test : List ℕ → Bool) (part whole : Enclosure) (f : Factor)
    (part_in : IsFoundOf part (IsSmall network H) (total network H test)) (whole_in : IsFoundOf whole (IsSmall network H) (total network H (holds asked.condition)))
    (share : total network H test ≤ total network H (holds asked.condition))
    (for : (g : ℕ) → least_gain network H u test ≡ Some g
    → IsFactorFor f max_market_trades (IsSmall network H) (factor_with H u g)) where
  at_gain : (g : ℕ) → least_gain network H u test ≡ Some g
      → BoundsSide (record { part = part; whole = whole; factor = f }) (IsSmall network H) (record { price = price_where network H asked.condition test; least = factor_with H u g })
  at_gain g e =
      let of = for g e in
      record {
        bounded = record { part = part_in.encloses; whole = whole_in.encloses; share = share; least = of.stands };
        graded = record {
          part = part_in.graded;
          whole = whole_in.graded;
          gain = within_more f.gain (grade_room max_market_trades) widest_grade
              (room_at_most max_market_trades) of.graded;
        };
        exact = λ s. record { part = part_in.exact s; whole = whole_in.exact s; gain = of.exact s };
      }

  pub bounds_side : (side : Side) → IsSide network H u asked test side → BoundsSide (record { part = part; whole = whole; factor = f }) (IsSmall network H) side
  bounds_side side h =
      let parts = side_parts network H u asked test side h in
      subst (BoundsSide (record { part = part; whole = whole; factor = f }) (IsSmall network H)) (sym (parts.2)) (at_gain (parts.0) (parts.1))

-- ---- a user's least factors on both sides

module _ (network : List Variable) (tree : GivenTree) (H : List Entry) (u : ℕ) (is_open : IsOpen network tree H) (asked : Asked) where
  pub hit_gain : (event : List Pair) → event ≡ pairs_asked asked → (g : ℕ) → least_gain network H u (with_target asked) ≡ Some g
      → (exact_belief least (gains_of network tree H u) event ≡ g) × (1 ≤ exact_belief least (gains_of network tree H u) event)
  hit_gain event e g is =
      present_is (exact_belief least (gains_of network tree H u) event) g
      (ap (λ (ps : List Pair). if_present (exact_belief least (gains_of network tree H u) ps)) e
      ∙ sym (belief_is_least network tree H u is_open.legal is_open.proper (pairs_asked asked)) ∙ target_is_least network H u asked ∙ is)

  module _ (answered : CanBeAnswered network tree H asked) where
    miss_gain : (values : ℕ) → values ≡ slice_index (sizes network) asked.target.variable → (g : ℕ) → least_gain network H u (without_target asked) ≡ Some g
        → (exact_others least (gains_of network tree H u) asked values ≡ g) × (1 ≤ exact_others least (gains_of network tree H u) asked values)
    miss_gain values sized g is =
        present_is (exact_others least (gains_of network tree H u) asked values) g
        (ap (λ n. if_present (exact_others least (gains_of network tree H u) asked n)) sized
        ∙ sym (others_are_least network tree H u is_open.legal is_open.proper asked answered.in_order.in_range) ∙ is)

    module _ (event : List Pair) (its_pairs : event ≡ pairs_asked asked) (most : ℕ) (result : Option Factor)
        (least_is : IsLeastFactor (holding_of network tree H u) (exact_belief least (gains_of network tree H u) event) most result) where
      pub some_hit : cannot_come network H (with_target asked) ≡ false → IsSome result
      some_hit comes =
          let found = least_where network H (with_target asked) u comes in
          some_least (holding_of network tree H u) (exact_belief least (gains_of network tree H u) event) most result least_is (hit_gain event its_pairs (found.0) (found.1)).1

      pub hit_for : (f : Factor) → result ≡ Some f → most ≤ length (gains_of network tree H u).factors + max_grade + max_values
          → (g : ℕ) → least_gain network H u (with_target asked) ≡ Some g
          → IsFactorFor f max_market_trades (IsSmall network H) (factor_with H u g)
      hit_for f is close g e =
          factor_for network tree H u is_open (exact_belief least (gains_of network tree H u) event)
          most result f is least_is close max_market_trades is_open.within.few_trades g
          (hit_gain event its_pairs g e).0

    module _ (values : ℕ) (sized : values ≡ slice_index (sizes network) asked.target.variable) (most : ℕ) (result : Option Factor)
        (least_is : IsLeastFactor (holding_of network tree H u) (exact_others least (gains_of network tree H u) asked values) most result) where
      pub some_miss : cannot_come network H (without_target asked) ≡ false → IsSome result
      some_miss comes =
          let found = least_where network H (without_target asked) u comes in
          some_least (holding_of network tree H u) (exact_others least (gains_of network tree H u) asked values) most result least_is (miss_gain values sized (found.0) (found.1)).1

      pub miss_for : (f : Factor) → result ≡ Some f → most ≤ length (gains_of network tree H u).factors + max_grade + max_values
          → (g : ℕ) → least_gain network H u (without_target asked) ≡ Some g
          → IsFactorFor f max_market_trades (IsSmall network H) (factor_with H u g)
      miss_for f is close g e =
          factor_for network tree H u is_open
          (exact_others least (gains_of network tree H u) asked values) most result f is
          least_is close max_market_trades is_open.within.few_trades g
          (miss_gain values sized g e).0

    -- what a call for the other values asks of an engine
    pub can_ask : {E : Type 0} (stands_for : E → Meaning
        → Type 0) (engine : E) (m : Meaning) (at values : ℕ) → stands_for engine m
        → m.network ≡ network → m.tree ≡ tree → IsHeldAt tree at (pairs_asked asked)
        → length m.factors ≤ max_factors
        → values ≡ slice_index (sizes network) asked.target.variable
        → CanAskOthers stands_for engine at asked values
    can_ask stands_for engine m at values stands of_network of_tree held room sized = record {
      meaning = m;
      stands = stands;
      question = rw of_network answered.in_order.in_range;
      sized = rw of_network sized;
      few = omega (arith, sized, few_values_at network is_open.legal asked.target.variable answered.in_order.in_range.target.variable);
      held = rw of_tree held;
      room = room;
    }

    room_of_weights : length (weights_of network tree H).factors ≤ max_factors
    room_of_weights = (factors_are_few network tree H u is_open.legal is_open.within.few_trades).0

    pub room_of_gains : length (gains_of network tree H u).factors ≤ max_factors
    room_of_gains = (factors_are_few network tree H u is_open.legal is_open.within.few_trades).1

    -- so it is where the engine has the weights
    pub can_ask_weights : {E : Type 0} (stands_for : E → Meaning → Type 0) (engine : E)
        (at values : ℕ) → stands_for engine (weights_of network tree H)
        → IsHeldAt tree at (pairs_asked asked)
        → values ≡ slice_index (sizes network) asked.target.variable
        → CanAskOthers stands_for engine at asked values
    can_ask_weights stands_for engine at values stands held sized =
        can_ask stands_for engine (weights_of network tree H) at values stands refl refl held
        room_of_weights sized

-- ---- all of it

module _ (network : List Variable) (H : List Entry) (u : ℕ) (asked : Asked) (hit miss whole : Enclosure) (hit_factor miss_factor : Factor)
    (hit_in : IsBeliefIn (Present hit) (IsSmall network H) (total network H (with_target asked)))
    (miss_in : IsBeliefIn (Present miss) (IsSmall network H) (total network H (without_target asked))) (whole_is : IsSumOf hit miss whole)
    (hit_least : (g : ℕ) → least_gain network H u (with_target asked) ≡ Some g
    → IsFactorFor hit_factor max_market_trades (IsSmall network H) (factor_with H u g))
    (miss_least : (g : ℕ) → least_gain network H u (without_target asked) ≡ Some g
    → IsFactorFor miss_factor max_market_trades (IsSmall network H) (factor_with H u g)) where
  whole_in : IsWholeFor network H asked whole
  whole_in = sum_is_whole network H asked hit miss whole hit_in miss_in whole_is

  pub are_bounds : (on_hit on_miss : Side) → AreSides network H u asked on_hit on_miss
      → AreBoundsFor (record { hit = hit; miss = miss; whole = whole; hit_factor = hit_factor; miss_factor = miss_factor }) (IsSmall network H) on_hit on_miss
  are_bounds on_hit on_miss sides =
      let all = cases_are_all network H asked in
      let h = bounds_side network H u asked (with_target asked) hit whole hit_factor (found_of hit (IsSmall network H) _ hit_in) whole_in (omega arith) hit_least on_hit sides.hit_side in
      let m = bounds_side network H u asked (without_target asked) miss whole miss_factor (found_of miss (IsSmall network H) _ miss_in) whole_in (omega arith) miss_least on_miss sides.miss_side in
      record {
        sides = record { of_hit = h.bounded; of_miss = m.bounded };
        graded = record { hit = h.graded; miss = m.graded };
        exact = λ s. record { hit = h.exact s; miss = m.exact s };
      }
