-- The price engine's beliefs in a market in use.
use Rattle.std.proofs.Common.{◌≡◌, ℕ, ◌+◌, ◌-◌, ◌≤◌, List, [], ◌∷◌, length, slice_index, sym, ap}
use Rattle.std.proofs.Common.{subst, ◌∙◌, arith, le_refl}
use Rattle.std.proofs.lemmas.List.Elements.{All-from_recursion}
use Rattle.mk_net.specs.declared.words.Pair.{Pair}
use Rattle.mk_net.specs.Asked.{Asked}
use Rattle.mk_net.specs.Bounds.{sharpness, grade_room}
use Rattle.mk_net.specs.Events.{pairs_asked}
use Rattle.mk_net.specs.Network.{Variable, sizes}
use Rattle.mk_states.specs.Events.{holds, with_target, without_target}
use Rattle.mk_exact.specs.History.{Entry, trades}
use Rattle.mk_exact.specs.Weight.{total, IsSmall}
use Rattle.mk_states.specs.OfNetwork.{IsPairOf, IsQuestionOf}
use Rattle.mk_exact.specs.Prices.{exact_price, CoversPrice}
use Rattle.mk_exact.proofs.Sharp.{sharp_enough}
use Rattle.mk_states.proofs.Sums.{each-append}
use Rattle.mk_tree.specs.Given.{GivenTree}
use Rattle.mk_scaled.specs.Near.{near_more}
use Rattle.mk_enclose.specs.declared.enclosure.Enclosure.{Enclosure}
use Rattle.mk_enclose.specs.Enclosure.{lower_of, upper_of, HasGrade, IsExact, IsGradedWithin}
use Rattle.mk_semiring.specs.declared.held.Held.{Held}
use Rattle.mk_semiring.specs.declared.held.Held.TheVariants.{Present}
use Rattle.mk_semiring.specs.Held.{HeldEncloses, HasHeldGrade, IsHeldExact, held_grade_more}
use Rattle.mk_engine.specs.Meaning.{max_factors, max_grade, ArePairsOf}
use Rattle.mk_engine.specs.Beliefs.{IsBelief}
use Rattle.mk_engine.specs.Cases.{exact_others, IsOthersBelief}
use Rattle.mk_beliefs.specs.Meanings.{weights_of}
use Rattle.mk_beliefs.proofs.Weighed.{belief_is_total, others_are_total, target_is_total, cases_are_all, weights_are_small}
use Rattle.mk_beliefs.proofs.Grown.{factors_are_few}
use Rattle.mk_answers.specs.Open.{IsOpen}
use Rattle.mk_answers.specs.inner.Found.{IsThere, IsBeliefIn, IsPartFor, IsWholeFor, AreSidesIn}
use Rattle.mk_answers.specs.inner.Found.{HasSides, max_side_grade}
use Rattle.mk_answers.proofs.Weaker.{covers_when}
use Rattle.mk_answers.proofs.Parts.{ArePartsOf, parts_cover, room_is_wide}
use Rattle.mk_answers.proofs.Presence.{some_weight}
use Rattle.mk_answers.proofs.Room.{weights_room}

grade_more : (e : Enclosure) (g h : ℕ) → g ≤ h → HasGrade e g → HasGrade e h
grade_more e g h l has = record { near = near_more (lower_of e) (upper_of e) g h l has.near }

-- a belief in an event of the weights
abbrev pub IsWeightOf : List Variable → GivenTree → List Entry → List Pair → Held → Type 0
IsWeightOf network tree H event belief = IsBelief HeldEncloses HasHeldGrade IsHeldExact ◌+◌ (weights_of network tree H) event belief

-- a belief of such a number, or of one that is the same
in_same : (belief : Held) (small : Type 0) (m n : ℕ) → m ≡ n → IsBeliefIn belief small m → IsBeliefIn belief small n
in_same belief small m n e b = subst (IsBeliefIn belief small) e b

pub is_there : (belief : Held) (small : Type 0) (n : ℕ) → IsBeliefIn belief small n → 1 ≤ n → IsThere belief
is_there belief small n b some = record { number = n; encloses = b.encloses; positive = some }

module _ (network : List Variable) (tree : GivenTree) (H : List Entry) (is_open : IsOpen network tree H) where
  few : length (weights_of network tree H).factors ≤ max_factors
  few = (factors_are_few network tree H 0 is_open.legal is_open.within.few_trades).0

  event_in : (event : List Pair) (belief : Held) → IsWeightOf network tree H event belief → IsBeliefIn belief (IsSmall network H) (total network H (holds event))
  event_in event belief b = record {
    encloses = subst (HeldEncloses belief) (belief_is_total network tree H event) b.value;
    grade = held_grade_more belief (length (weights_of network tree H).factors + max_grade) max_side_grade b.grade (omega (arith, few));
    exact = λ s. b.exact (weights_are_small network tree H s);
  }

  -- its grade leaves room for a step more
  module _ (most_trades : ℕ) (fit : length (trades H) ≤ most_trades) where
    pub event_graded : (event : List Pair) (belief : Held) → IsWeightOf network tree H event belief
        → HasHeldGrade belief (grade_room most_trades - 1)
    event_graded event belief b = held_grade_more belief
        (length (weights_of network tree H).factors + max_grade) (grade_room most_trades - 1)
        b.grade
        (omega (arith, weights_room network tree H is_open most_trades fit))

    pub others_graded : (asked : Asked) (values : ℕ) (belief : Held)
        → IsOthersBelief HeldEncloses HasHeldGrade IsHeldExact ◌+◌ (weights_of network tree H)
        asked values belief
        → HasHeldGrade belief (grade_room most_trades - 1)
    others_graded asked values belief b = held_grade_more belief _ (grade_room most_trades - 1)
        b.grade (weights_room network tree H is_open most_trades fit)

  module _ (asked : Asked) where
    pub hit_in : (event : List Pair) (belief : Held) → event ≡ pairs_asked asked → IsWeightOf network tree H event belief
        → IsBeliefIn belief (IsSmall network H) (total network H (with_target asked))
    hit_in event belief e b = in_same belief (IsSmall network H) _ _ (ap (λ (ps : List Pair). total network H (holds ps)) e ∙ target_is_total network H asked) (event_in event belief b)

    pub part_in : (event : List Pair) (belief : Held) (part : Enclosure) → event ≡ pairs_asked asked → belief ≡ Present part → IsWeightOf network tree H event belief
        → IsPartFor network H asked part
    part_in event belief part e is b = subst (λ (b : Held). IsBeliefIn b (IsSmall network H) (total network H (with_target asked))) is (hit_in event belief e b)

    pub condition_in : (event : List Pair) (belief : Held) → event ≡ asked.condition → IsWeightOf network tree H event belief
        → IsBeliefIn belief (IsSmall network H) (total network H (holds asked.condition))
    condition_in event belief e b = in_same belief (IsSmall network H) _ _ (ap (λ (ps : List Pair). total network H (holds ps)) e) (event_in event belief b)

    pub miss_in : (values : ℕ) (belief : Held) → IsQuestionOf network asked → values ≡ slice_index (sizes network) asked.target.variable
        → IsOthersBelief HeldEncloses HasHeldGrade IsHeldExact ◌+◌ (weights_of network tree H)
        asked values belief
        → IsBeliefIn belief (IsSmall network H) (total network H (without_target asked))
    miss_in values belief fits sized b = record {
      encloses = subst (HeldEncloses belief) (ap (λ n. exact_others ◌+◌ (weights_of network tree H) asked n) sized ∙ others_are_total network tree H asked fits) b.value;
      grade = held_grade_more belief _ max_side_grade b.grade (omega (arith, few));
      exact = λ s. b.exact (weights_are_small network tree H s);
    }

    -- what the beliefs in its target and in the other values are in
    pub sides_in : (event : List Pair) (part rest : Held) (values : ℕ) → event ≡ pairs_asked asked
        → IsQuestionOf network asked
        → values ≡ slice_index (sizes network) asked.target.variable
        → IsWeightOf network tree H event part
        → IsOthersBelief HeldEncloses HasHeldGrade IsHeldExact ◌+◌ (weights_of network tree H)
        asked values rest
        → AreSidesIn network H asked part rest
    sides_in event part rest values its_pairs fits sized on_part on_rest = record {
      hit = hit_in event part its_pairs on_part;
      miss = miss_in values rest fits sized on_rest;
    }

module _ (network : List Variable) (H : List Entry) (asked : Asked) where
  pub hit_share : total network H (with_target asked) ≤ total network H (holds asked.condition)
  hit_share = omega (arith, cases_are_all network H asked)

  -- beliefs in both sides of it are in those of some question
  pub has_sides : (part rest : Held) → AreSidesIn network H asked part rest → HasSides part rest
  has_sides part rest sides =
      record { network = network; history = H; asked = asked; sides = sides }

  -- the interval of the two enclosures covers the price, where both sides weigh something
  module _ (num den : Enclosure) (num_in : IsPartFor network H asked num) (den_in : IsWholeFor network H asked den) where
    pub ends_in_order : lower_of num ≤ upper_of den
    ends_in_order = omega (arith, num_in.encloses.lower, den_in.encloses.upper, hit_share)

    pub interval_covers : (most_trades : ℕ) → IsGradedWithin num (grade_room most_trades)
        → IsGradedWithin den (grade_room most_trades)
        → 1 ≤ total network H (without_target asked) → (low high : ℕ) → ArePartsOf num den low high
        → CoversPrice (IsSmall network H) (sharpness most_trades) (exact_price network H asked)
        low high
    interval_covers most_trades num_graded den_graded rest low high parts =
        let all = cases_are_all network H asked in
        covers_when (IsSmall network H) (IsExact num × IsExact den)
        (λ s. (num_in.exact s, den_in.exact s)) (sharpness most_trades)
        (exact_price network H asked) low high
        (parts_cover (sharpness most_trades) (grade_room most_trades) (room_is_wide most_trades)
        (sharp_enough most_trades)
        num den _ _ (grade_room most_trades) low high num_in.encloses den_in.encloses
        (some_weight den _ den_in.encloses) hit_share (omega (arith, all)) (le_refl _)
        (grade_more num num_graded.grade (grade_room most_trades) num_graded.small num_graded.has)
        (grade_more den den_graded.grade (grade_room most_trades) den_graded.small
        den_graded.has) parts)

-- the network's own pairs, in a condition
pub condition_fits : (network : List Variable) (asked : Asked) (event : List Pair) → event ≡ asked.condition → IsQuestionOf network asked → ArePairsOf network event
condition_fits network asked event e fits = subst (λ (ps : List Pair). ArePairsOf network ps) (sym e) (All-from_recursion (IsPairOf network) asked.condition fits.condition)

pub event_fits : (network : List Variable) (asked : Asked) (event : List Pair) → event ≡ pairs_asked asked → IsQuestionOf network asked → ArePairsOf network event
event_fits network asked event e fits =
    subst (λ (ps : List Pair). ArePairsOf network ps) (sym e)
    (All-from_recursion (IsPairOf network) (pairs_asked asked) (each-append (IsPairOf network) asked.condition (asked.target ∷ []) fits.condition (fits.target, tt)))
