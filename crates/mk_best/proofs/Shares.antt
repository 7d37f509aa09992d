-- Beliefs in the states that are left, and the share of a part in a whole.
use Rattle.std.proofs.Common.{◌≡◌, ℕ, ◌+◌, ◌^◌, ◌≤◌, ◌&&◌, List, [], ◌∷◌, length, slice_index, Some}
use Rattle.std.proofs.Common.{◌-◌, ◌*◌, ◌<◌, not, refl, sym, ap, subst, ◌∙◌, arith, le_refl}
use Rattle.std.proofs.lemmas.List.Elements.{All-from_recursion}
use Rattle.mk_net.specs.declared.words.Pair.{Pair}
use Rattle.mk_net.specs.Bounds.{max_variables, max_market_trades, max_values, sharpness, grade_room}
use Rattle.mk_net.specs.Asked.{Asked}
use Rattle.mk_net.specs.Network.{Variable, IsNetwork, sizes}
use Rattle.mk_states.specs.Events.{has, holds, always}
use Rattle.mk_exact.specs.History.{Entry, UserTrade, trades}
use Rattle.mk_exact.specs.Prices.{CoversPrice}
use Rattle.mk_states.specs.OfNetwork.{IsPairOf}
use Rattle.mk_exact.specs.Proper.{IsProper}
use Rattle.mk_exact.specs.Weight.{IsSmall, total}
use Rattle.mk_exact.proofs.Sharp.{sharp_enough}
use Rattle.mk_tree.specs.Given.{GivenTree, home}
use Rattle.mk_tree.proofs.Held.{home_is_held}
use Rattle.mk_states.proofs.Shares.{few_values_at}
use Rattle.mk_engine.specs.Cases.{exact_others, CanAskOthers, IsOthersBelief}
use Rattle.mk_enclose.specs.declared.enclosure.Enclosure.{Enclosure}
use Rattle.mk_enclose.specs.Enclosure.{IsExact}
use Rattle.mk_semiring.specs.declared.held.Held.{Held}
use Rattle.mk_semiring.specs.declared.held.Held.TheVariants.{Absent, Present}
use Rattle.mk_semiring.specs.Held.{HeldEncloses, HasHeldGrade, IsHeldExact, held_grade_more}
use Rattle.mk_engine.specs.Meaning.{Meaning, max_factors, max_grade, ArePairsOf}
use Rattle.mk_engine.specs.Beliefs.{IsBelief}
use Rattle.mk_beliefs.specs.Meanings.{weights_of}
use Rattle.mk_beliefs.proofs.Weighed.{belief_is_total, others_are_total, weights_are_small}
use Rattle.mk_beliefs.proofs.Grown.{factors_are_few, factors_by_trades}
use Rattle.mk_answers.proofs.Sided.{covers_nothing as nothing_covered, covers_all as all_covered}
use Rattle.mk_answers.specs.inner.Found.{IsBeliefIn, max_side_grade}
use Rattle.mk_answers.proofs.Room.{within_room}
use Rattle.mk_answers.proofs.Weaker.{covers_when}
use Rattle.mk_answers.proofs.Parts.{ArePartsOf, parts_cover, room_is_wide}
use Rattle.mk_answers.proofs.Presence.{some_weight, weighed_comes, absent_never}
use Rattle.mk_best.specs.declared.found.Chance.{Chance}
use Rattle.mk_best.specs.declared.found.Chance.TheVariants.{Price, Impossible}
use Rattle.mk_best.specs.Chances.{IsChance}
use Rattle.mk_best.specs.inner.Engines.{learned, IsLeftFor, ArePartAndWhole}
use Rattle.mk_best.proofs.Learned.{trades_learned, total_learned, all_learned, small_learned}

pub few_factors : (network : List Variable) (tree : GivenTree) (H : List Entry) → IsNetwork network
    → length (trades H) ≤ max_market_trades
    → length (weights_of network tree H).factors ≤ max_factors
few_factors network tree H legal few = (factors_are_few network tree H 0 legal few).0

pub nothing_fits : (network : List Variable) (event : List Pair) → event ≡ []
    → ArePairsOf network event
nothing_fits network event e = subst (λ (ps : List Pair). ArePairsOf network ps) (sym e)
    (All-from_recursion (IsPairOf network) [] tt)

-- the belief in no pair is in all states that are left
pub left_in : (network : List Variable) (tree : GivenTree) (H : List Entry) → IsNetwork network
    → length (trades H) ≤ max_market_trades → (event : List Pair) (belief : Held) → event ≡ []
    → IsBelief HeldEncloses HasHeldGrade IsHeldExact ◌+◌ (weights_of network tree H) event belief
    → IsBeliefIn belief (IsSmall network H) (total network H always)
left_in network tree H legal few event belief none b = record {
  encloses = subst (HeldEncloses belief) (belief_is_total network tree H event ∙ ap
      (λ (ps : List Pair). total network H (holds ps)) none) b.value;
  grade = held_grade_more belief (length (weights_of network tree H).factors + max_grade)
      max_side_grade b.grade (omega (arith, few_factors network tree H legal few));
  exact = λ s. b.exact (weights_are_small network tree H s);
}

few_steps : (factors count room : ℕ) → factors ≤ max_variables + count
    → max_variables + count + max_grade + max_values + 1 ≤ room → factors + max_grade ≤ room
few_steps factors count room few fits = omega (arith, few, fits)

-- and has a grade for which so many trades leave room
pub room_in : (network : List Variable) (tree : GivenTree) (H : List Entry) → IsNetwork network
    → length (trades H) ≤ max_market_trades → (event : List Pair) (belief : Held)
    → IsBelief HeldEncloses HasHeldGrade IsHeldExact ◌+◌ (weights_of network tree H) event belief
    → HasHeldGrade belief (grade_room (length (trades H)))
room_in network tree H legal few event belief b =
    let count = length (trades H) in
    held_grade_more belief (length (weights_of network tree H).factors + max_grade)
    (grade_room count) b.grade
    (few_steps (length (weights_of network tree H).factors) count (grade_room count)
    (factors_by_trades network tree H 0 legal).0 (within_room count count (le_refl count) few))

pub covers_nothing : (small : Type 0) (near v w : ℕ) → 2 ≤ near → v ≡ 0 → 1 ≤ w
    → CoversPrice small near (record { num = v; den = w }) 0 0
covers_nothing small near v w wide none some =
    subst (λ (n : ℕ). CoversPrice small near (record { num = n; den = w }) 0 0) (sym none)
    (nothing_covered small near w wide some)

pub covers_all : (small : Type 0) (near v w : ℕ) → 2 ≤ near → v ≡ w → 1 ≤ w
    → CoversPrice small near (record { num = v; den = w }) (10 ^ 10) (10 ^ 10)
covers_all small near v w wide same some =
    subst (λ (n : ℕ). CoversPrice small near (record { num = n; den = w }) (10 ^ 10) (10 ^ 10))
    (sym same) (all_covered small near w wide some)

pub covers_part : (network : List Variable) (H : List Entry) (part whole : Enclosure)
    (v w low high : ℕ) → ArePartAndWhole network H (Present part) whole v w
    → ArePartsOf part whole low high
    → CoversPrice (IsSmall network H) (sharpness (length (trades H)))
    (record { num = v; den = w }) low high
covers_part network H part whole v w low high are parts =
    let count = length (trades H) in
    covers_when (IsSmall network H) (IsExact part × IsExact whole)
    (λ s. (are.of_part.exact s, are.of_whole.exact s)) (sharpness count)
    (record { num = v; den = w }) low high
    (parts_cover (sharpness count) (grade_room count) (room_is_wide count) (sharp_enough count)
    part whole v w (grade_room count) low high are.of_part.encloses are.of_whole.encloses
    (some_weight whole w are.of_whole.encloses) (omega (arith, are.less)) are.less
    (le_refl (grade_room count)) are.part_room.0 are.whole_room.0 parts)

-- what covers a share where pairs are known covers it as sharply
pub covers_learned : (small : Type 0) (H : List Entry) (pairs : List Pair) (v w low high : ℕ)
    → CoversPrice small (sharpness (length (trades (learned H pairs))))
    (record { num = v; den = w }) low high
    → CoversPrice small (sharpness (length (trades H))) (record { num = v; den = w }) low high
covers_learned small H pairs v w low high covers =
    subst (λ (ts : List UserTrade). CoversPrice small (sharpness (length ts))
    (record { num = v; den = w }) low high) (trades_learned H pairs) covers

-- what is found of the states that are left with what is given is found of the chance
pub chance_is : (network : List Variable) (H : List Entry) (want given : List Pair) (found : Chance)
    → IsNetwork network → IsProper network H
    → IsLeftFor network (learned H given) want found → IsChance network H want given found
chance_is network H want given (Price low high) legal proper left =
    let num : total network (learned H given) (holds want) ≡ total network H
    (λ s. holds given s && holds want s) = total_learned H given network (holds want) in
    let den : total network (learned H given) always ≡ total network H (holds given) = all_learned H
    given network in (
      weighed_comes network H (holds given) (subst (λ n. 1 ≤ n) den left.0),
      subst (λ (n : ℕ). CoversPrice (IsSmall network H) (sharpness (length (trades H)))
          (record { num = n; den = total network H (holds given) }) low high) num
          (subst (λ (n : ℕ). CoversPrice (IsSmall network H) (sharpness (length (trades H)))
          (record { num = total network (learned H given) (holds want); den = n }) low high) den
          (covers_when (IsSmall network H) (IsSmall network (learned H given))
          (small_learned H given network) (sharpness (length (trades H))) _ low high
          (covers_learned (IsSmall network (learned H given)) H given
          (total network (learned H given) (holds want)) (total network (learned H given) always)
          low high left.1))),
    )
chance_is network H want given Impossible legal proper left =
    absent_never network H (holds given) legal proper (sym (all_learned H given network) ∙ left)

-- ---- the part with the wanted pairs

pub few_learned : (H : List Entry) (pairs : List Pair) → length (trades H) ≤ max_market_trades
    → length (trades (learned H pairs)) ≤ max_market_trades
few_learned H pairs few = subst (λ (ts : List UserTrade). length ts ≤ max_market_trades)
    (sym (trades_learned H pairs)) few

pub part_in : (network : List Variable) (H : List Entry) (want : List Pair) (part : Held)
    → IsBeliefIn part (IsSmall network (learned H want)) (total network (learned H want) always)
    → IsBeliefIn part (IsSmall network H) (total network H (holds want))
part_in network H want part b = record {
  encloses = subst (HeldEncloses part) (all_learned H want network) b.encloses;
  grade = b.grade;
  exact = λ s. b.exact (small_learned H want network s);
}

pub in_present : (belief : Held) (e : Enclosure) (small : Type 0) (n : ℕ) → belief ≡ Present e
    → IsBeliefIn belief small n → IsBeliefIn (Present e) small n
in_present belief e small n is b = subst (λ (x : Held). IsBeliefIn x small n) is b

pub in_absent : (belief : Held) (small : Type 0) (n : ℕ) → belief ≡ Absent
    → IsBeliefIn belief small n → n ≡ 0
in_absent belief small n is b = (subst (λ (x : Held). HeldEncloses x n) is b.encloses)

-- the beliefs before the wanted pairs are known, and after that
pub part_and_whole : (network : List Variable) (tree : GivenTree) (H : List Entry)
    (want : List Pair) → IsNetwork network → length (trades H) ≤ max_market_trades
    → (before after : List Pair) (all part : Held) (whole : Enclosure) → before ≡ [] → after ≡ []
    → all ≡ Present whole
    → IsBelief HeldEncloses HasHeldGrade IsHeldExact ◌+◌ (weights_of network tree H) before all
    → IsBelief HeldEncloses HasHeldGrade IsHeldExact ◌+◌ (weights_of network tree (learned H want))
    after part
    → total network H (holds want) < total network H always
    → ArePartAndWhole network H part whole (total network H (holds want)) (total network H always)
part_and_whole network tree H want legal few before after all part whole none also is b c less =
    record {
      of_part = part_in network H want part
          (left_in network tree (learned H want) legal (few_learned H want few) after part also c);
      of_whole = in_present all whole (IsSmall network H) (total network H always) is
          (left_in network tree H legal few before all none b);
      part_room = subst (λ (ts : List UserTrade). HasHeldGrade part (grade_room (length ts)))
          (trades_learned H want)
          (room_in network tree (learned H want) legal (few_learned H want few) after part c);
      whole_room = subst (λ (x : Held). HasHeldGrade x (grade_room (length (trades H)))) is
          (room_in network tree H legal few before all b);
      less = less;
    }

-- ---- whether a pair can fail

abbrev pub is_asked : Pair → Asked
is_asked pair = record { target = pair; condition = [] }

pub can_ask : {E : Type 0} (stands_for : E → Meaning
    → Type 0) (engine : E) (network : List Variable) (tree : GivenTree) (H : List Entry)
    (pair : Pair) (at values : ℕ) (asked : Asked)
    → stands_for engine (weights_of network tree H) → IsNetwork network
    → length (trades H) ≤ max_market_trades → IsPairOf network pair → asked ≡ is_asked pair
    → home tree (pair ∷ []) ≡ Some at → values ≡ slice_index (sizes network) pair.variable
    → CanAskOthers stands_for engine at asked values
can_ask stands_for engine network tree H pair at values asked stands legal few fits is at_home sized
    =
    subst (λ (a : Asked). CanAskOthers stands_for engine at a values) (sym is) (record {
      meaning = weights_of network tree H;
      stands = stands;
      question = record { target = fits; condition = tt };
      sized = sized;
      few = omega (arith, sized, few_values_at network legal pair.variable fits.variable);
      held = home_is_held tree at (pair ∷ []) at_home;
      room = few_factors network tree H legal few;
    })

-- what is asked with an event of no pairs, by what is known of a question that is made
pub asked_is : {asked : Asked} {pair : Pair} {event : List Pair}
    → asked ≡ record { target = pair; condition = event } → event ≡ [] → asked ≡ is_asked pair
asked_is {pair = pair} is none =
    is ∙ ap (λ (ps : List Pair). record { target = pair; condition = ps }) none

-- the belief in the other values of a pair's variable is in all states without the pair
pub fails_in : {network : List Variable} {pair : Pair} {values : ℕ} {asked : Asked}
    (tree : GivenTree) (H : List Entry) (belief : Held) → IsPairOf network pair
    → asked ≡ is_asked pair → values ≡ slice_index (sizes network) pair.variable
    → (values ≡ slice_index (sizes network) asked.target.variable
    → IsOthersBelief HeldEncloses HasHeldGrade IsHeldExact ◌+◌ (weights_of network tree H) asked
    values belief)
    → HeldEncloses belief (total network H (λ s. not (has pair s)))
fails_in {network = network} {pair = pair} {values = values} {asked = asked} tree H belief fits is
    sized b =
    let sized_so : values ≡ slice_index (sizes network) asked.target.variable = subst
    (λ (x : Asked). values ≡ slice_index (sizes network) x.target.variable) (sym is) sized in
    subst (HeldEncloses belief)
    (ap (λ (a : Asked). exact_others ◌+◌ (weights_of network tree H) a values) is
    ∙ ap (λ n. exact_others ◌+◌ (weights_of network tree H) (is_asked pair) n) sized
    ∙ others_are_total network tree H (is_asked pair) (record { target = fits; condition = tt }))
    (b sized_so).value

pub none_of : (belief : Held) (n : ℕ) → belief ≡ Absent → HeldEncloses belief n → n ≡ 0
none_of belief n is h = subst (λ (x : Held). HeldEncloses x n) is h

pub some_of : (belief : Held) (e : Enclosure) (n : ℕ) → belief ≡ Present e → HeldEncloses belief n
    → 1 ≤ n
some_of belief e n is h = some_weight e n (subst (λ (x : Held). HeldEncloses x n) is h)
