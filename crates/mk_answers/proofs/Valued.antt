-- The bounds of every value of a variable in a market in use.
use Rattle.std.proofs.Common.{◌≡◌, ℕ, zero, suc, ◌+◌, ◌<◌, ◌≤◌, ◌↔◌, Bool, true, false, not, List, [], ◌∷◌, ◌++◌, map, slice_index, length, Option, Some, None, IsSome, IsNone, IfSome, refl, subst, ap, ◌∙◌, arith}
use Rattle.std.specs.Prelude.{option_map, is_some}
use Rattle.std.specs.List.{AllZip, range_with_len}
use Rattle.mk_net.specs.declared.words.Pair.{Pair}
use Rattle.mk_net.specs.Asked.{Asked}
use Rattle.mk_net.specs.Bounds.{max_market_trades, max_values}
use Rattle.mk_net.specs.Events.{pairs_asked}
use Rattle.mk_net.specs.Network.{Variable, sizes}
use Rattle.mk_states.specs.Events.{holds, with_target}
use Rattle.mk_exact.specs.History.{Entry}
use Rattle.mk_exact.specs.Limits.{Side}
use Rattle.mk_states.specs.States.{numbers_below}
use Rattle.mk_exact.specs.Weight.{total, cannot_come, IsSmall}
use Rattle.mk_exact.proofs.Coming.{state_of}
use Rattle.mk_cell.specs.Least.{least}
use Rattle.mk_tree.specs.Given.{GivenTree}
use Rattle.mk_tree.specs.Held.{IsHeldAt}
use Rattle.mk_enclose.specs.declared.enclosure.Enclosure.{Enclosure}
use Rattle.mk_enclose.specs.declared.factor.Factor.{Factor}
use Rattle.mk_semiring.specs.declared.held.Held.{Held}
use Rattle.mk_semiring.specs.declared.held.Held.TheVariants.{Absent, Present}
use Rattle.mk_engine.specs.Meaning.{exact_belief, max_grade}
use Rattle.mk_spread.specs.Spreads.{SpreadAsked, asked_of}
use Rattle.mk_spread.specs.Markets.{IsValueSide, value_cannot_come, values_left}
use Rattle.mk_spread.proofs.Left.{no_side_exactly, some_left}
use Rattle.mk_beliefs.specs.Meanings.{gains_of}
use Rattle.mk_beliefs.proofs.Weighed.{cases_are_all}
use Rattle.mk_assets.specs.Holdings.{IsLeastFactor}
use Rattle.mk_quote.specs.declared.side.SideBounds.{SideBounds}
use Rattle.mk_quote.specs.declared.values.SpreadBounds.{SpreadBounds}
use Rattle.mk_quote.specs.declared.values.ValueBounds.{ValueBounds}
use Rattle.mk_quote.specs.Sides.{AreGraded, AreExact}
use Rattle.mk_quote.specs.Values.{side_in, IsEnclosed}
use Rattle.mk_answers.specs.Open.{IsOpen, CanBeSpreadHere, AreSideBoundsFor, holding_of}
use Rattle.mk_answers.specs.inner.Alone.{alone_in}
use Rattle.mk_answers.specs.inner.Found.{IsBeliefIn, IsPartFor, IsValueFound, CanBeValuedHere}
use Rattle.mk_answers.proofs.Alone.{AreFilledWhere, alone_passes, two_pass}
use Rattle.mk_answers.proofs.Bounding.{hit_gain, found_of, bounds_side}
use Rattle.mk_answers.proofs.Least.{some_least, factor_for}
use Rattle.mk_answers.proofs.Presence.{present_comes, absent_never, least_where}
use Rattle.mk_answers.proofs.Weights.{IsWeightOf, hit_in, part_in, condition_in}

-- the bounds of a value, or none, are those of its side
record IsSideBounded (small : Type 0) (bounds : Option SideBounds) (side : Option Side) : Type 0 where
  pub enclosed : IsEnclosed bounds side
  pub graded : IfSome bounds AreGraded
  pub exact : small → IfSome bounds AreExact

-- ---- one value

module _ (network : List Variable) (tree : GivenTree) (H : List Entry) (u : ℕ) (is_open : IsOpen network tree H) (asked : Asked) (event : List Pair) (its_pairs : event ≡ pairs_asked asked) where
  -- without a belief the value cannot come
  pub none_found : (belief : Held) → belief ≡ Absent → IsWeightOf network tree H event belief → IsValueFound network H u asked None
  none_found belief is b = record { none = (λ e. never, λ e. refl); bounds = tt }
    where
      nothing : total network H (with_target asked) ≡ 0
      nothing = (subst (λ (held : Held). IsBeliefIn held (IsSmall network H) (total network H (with_target asked))) is (hit_in network tree H is_open asked event belief its_pairs b)).encloses

      never : cannot_come network H (with_target asked) ≡ true
      never = absent_never network H (with_target asked) is_open.legal is_open.proper nothing

  module _ (belief : Held) (part : Enclosure) (is : belief ≡ Present part) (b : IsWeightOf network tree H event belief) where
    part_for : IsPartFor network H asked part
    part_for = part_in network tree H is_open asked event belief part its_pairs is b

    comes : cannot_come network H (with_target asked) ≡ false
    comes = present_comes network H (with_target asked) part part_for.encloses

    module _ (most : ℕ) (result : Option Factor) (least_is : IsLeastFactor (holding_of network tree H u) (exact_belief least (gains_of network tree H u) event) most result) where
      pub some_value : IsSome result
      some_value =
          let found = least_where network H (with_target asked) u comes in
          some_least (holding_of network tree H u) (exact_belief least (gains_of network tree H u) event) most result least_is
          (hit_gain network tree H u is_open asked event its_pairs (found.0) (found.1)).1

      pub value_found : (f : Factor) → result ≡ Some f → most ≤ length (gains_of network tree H u).factors + max_grade + max_values
          → IsValueFound network H u asked (Some (record { part = part; factor = f }))
      value_found f same close = record {
        none = (λ e. absurd (cc), λ e. absurd (let no = comes in cc));
        bounds = record {
          part = part_for;
          factor = λ g e.
              factor_for network tree H u is_open
              (exact_belief least (gains_of network tree H u) event) most result f same least_is
              close max_market_trades is_open.within.few_trades g
              (hit_gain network tree H u is_open asked event its_pairs g e).0;
        };
      }

-- ---- every value

-- what is found of the first values, one for each
abbrev pub AreFirstFound : List Variable → List Entry → ℕ → SpreadAsked → ℕ → List (Option ValueBounds) → Type 0
AreFirstFound network H u spread n parts = AllZip (λ value part. IsValueFound network H u (asked_of spread value) part) (numbers_below n) parts

-- one more number of a range
pub range_more : {X : Type 0} (P : ℕ → X → Type 0) (n a : ℕ) (xs : List X) (x : X)
    → AllZip P (range_with_len a n) xs → P (a + n) x
    → AllZip P (range_with_len a (suc n)) (xs ++ x ∷ [])
range_more P zero a [] x h p =
    let here : a + 0 ≡ a = omega arith in
    (subst (λ k. P k x) here p, tt)
range_more P zero a (y ∷ ys) x h p = absurd h
range_more P (suc n) a [] x h p = absurd h
range_more P (suc n) a (y ∷ ys) x h p =
    let there : a + suc n ≡ a + 1 + n = omega arith in
    (h.0, range_more P n (a + 1) ys x h.1 (subst (λ k. P k x) there p))

pub one_value_more : (network : List Variable) (H : List Entry) (u : ℕ) (spread : SpreadAsked) (n : ℕ) (parts : List (Option ValueBounds)) (part : Option ValueBounds)
    → AreFirstFound network H u spread n parts → IsValueFound network H u (asked_of spread n) part → AreFirstFound network H u spread (n + 1) (parts ++ part ∷ [])
one_value_more network H u spread n parts part h p =
    let on : suc n ≡ n + 1 = omega arith in
    let here : n ≡ 0 + n = omega arith in
    let P = λ (value : ℕ) (one : Option ValueBounds). IsValueFound network H u (asked_of spread value) one in
    subst (λ k. AreFirstFound network H u spread k (parts ++ part ∷ [])) on (range_more P n 0 parts part h (subst (λ k. P k part) here p))

-- the condition's belief
module _ (network : List Variable) (tree : GivenTree) (H : List Entry) (is_open : IsOpen network tree H) (spread : SpreadAsked) (event : List Pair) (belief : Held)
    (its_pairs : event ≡ spread.condition) (b : IsWeightOf network tree H event belief) where
  in_condition : IsBeliefIn belief (IsSmall network H) (total network H (holds spread.condition))
  in_condition = condition_in network tree H is_open (asked_of spread 0) event belief its_pairs b

  -- where it is not there the condition cannot come
  pub condition_never : ((whole : Enclosure) → belief ≡ Present whole → ⊥) → cannot_come network H (holds spread.condition) ≡ true
  condition_never none = at belief none in_condition
    where
      at : (held : Held) → ((whole : Enclosure) → held ≡ Present whole → ⊥) → IsBeliefIn held (IsSmall network H) (total network H (holds spread.condition))
          → cannot_come network H (holds spread.condition) ≡ true
      at Absent none of = absent_never network H (holds spread.condition) is_open.legal is_open.proper of.encloses
      at (Present whole) none of = absurd (none whole refl)

  module _ (whole : Enclosure) (is : belief ≡ Present whole) where
    pub whole_for : IsBeliefIn (Present whole) (IsSmall network H) (total network H (holds spread.condition))
    whole_for = subst (λ (held : Held). IsBeliefIn held (IsSmall network H) (total network H (holds spread.condition))) is in_condition

    pub condition_comes : cannot_come network H (holds spread.condition) ≡ false
    condition_comes = present_comes network H (holds spread.condition) whole whole_for.encloses

-- a question about one value is in order where that about all is
module _ (network : List Variable) (tree : GivenTree) (H : List Entry) (spread : SpreadAsked) (answered : CanBeSpreadHere network tree H spread) where
  pub valued_at : (at k : ℕ) → IsHeldAt tree at (pairs_asked (asked_of spread k))
      → k < slice_index (sizes network) spread.variable
      → CanBeValuedHere network tree H at (asked_of spread k)
  valued_at at k held within =
      let ordered = answered.in_order in
      record {
        in_order = record {
          in_range = record { target = record { variable = ordered.in_range.variable; value = within }; condition = ordered.in_range.condition };
          apart = ordered.apart;
          target_apart = ordered.variable_apart;
          unresolved = ordered.unresolved;
        };
        held = held;
      }

module _ (network : List Variable) (H : List Entry) (u : ℕ) (spread : SpreadAsked) where
  -- ---- which values are left

  -- a part is there exactly where its value is left
  filled_where : (k : ℕ) (part : Option ValueBounds) → IsValueFound network H u (asked_of spread k) part → is_some part ≡ not (value_cannot_come network H spread k)
  filled_where k part found = at part (value_cannot_come network H spread k) found.none
    where
      at : (o : Option ValueBounds) (b : Bool) → IsNone o ↔ (b ≡ true) → is_some o ≡ not b
      at None true h = refl
      at None false h = absurd (let no = h.0 refl in cc)
      at (Some part) true h = absurd (let no = h.1 refl in cc)
      at (Some part) false h = refl

  are_filled : (n a : ℕ) (parts : List (Option ValueBounds)) → AllZip (λ value part. IsValueFound network H u (asked_of spread value) part) (range_with_len a n) parts
      → AreFilledWhere (λ k. not (value_cannot_come network H spread k)) a n parts
  are_filled zero a [] found = tt
  are_filled zero a (part ∷ parts) found = absurd found
  are_filled (suc n) a [] found = absurd found
  are_filled (suc n) a (part ∷ parts) found = (filled_where a part found.0, are_filled n (a + 1) parts found.1)

  module _ (parts : List (Option ValueBounds)) (found : AreFirstFound network H u spread (slice_index (sizes network) spread.variable) parts) where
    -- the one value that has bounds is the one that is left
    pub alone_is_left : (k : ℕ) → alone_in parts ≡ Some k → values_left network H spread ≡ k ∷ []
    alone_is_left k e =
        let same : 0 + k ≡ k = omega arith in
        alone_passes (λ k. not (value_cannot_come network H spread k)) (slice_index (sizes network) spread.variable) 0 parts (are_filled _ 0 parts found) k e ∙ ap (λ i. i ∷ []) same

    -- and where none has alone, two are left
    pub two_are_left : alone_in parts ≡ None → spread.variable < length network → cannot_come network H (holds spread.condition) ≡ false → 2 ≤ length (values_left network H spread)
    two_are_left e within comes =
        two_pass (λ k. not (value_cannot_come network H spread k)) (slice_index (sizes network) spread.variable) 0 parts (are_filled _ 0 parts found) e
        (some_left network H spread within (state_of network H (holds spread.condition) comes))

  -- ---- their sides

  module _ (bounds : SpreadBounds) (whole_in : IsBeliefIn (Present bounds.whole) (IsSmall network H) (total network H (holds spread.condition))) where
    one_side : (k : ℕ) (part : Option ValueBounds) (side : Option Side) → IsValueFound network H u (asked_of spread k) part → IsValueSide network H u spread k side
        → IsSideBounded (IsSmall network H) (option_map (side_in bounds) part) side
    one_side k None None found is = record { enclosed = tt; graded = tt; exact = λ s. tt }
    one_side k None (Some side) found is = absurd (let never = found.none.0 refl in let comes = no_side_exactly network H spread u k (Some side) is in cc)
    one_side k (Some part) None found is = absurd (let never = found.none.1 (no_side_exactly network H spread u k None is) in cc)
    one_side k (Some part) (Some side) found is =
        let one = bounds_side network H u (asked_of spread k) (with_target (asked_of spread k)) part.part bounds.whole part.factor
        (found_of part.part (IsSmall network H) _ found.bounds.part) (found_of bounds.whole (IsSmall network H) _ whole_in)
        (omega (arith, cases_are_all network H (asked_of spread k))) found.bounds.factor side is in
        record { enclosed = one.bounded; graded = one.graded; exact = one.exact }

    pub are_side_bounds : (n a : ℕ) (parts : List (Option ValueBounds)) (sides : List (Option Side))
        → AllZip (λ value part. IsValueFound network H u (asked_of spread value) part) (range_with_len a n) parts → AllZip (IsValueSide network H u spread) (range_with_len a n) sides
        → AreSideBoundsFor (map (option_map (side_in bounds)) parts) (IsSmall network H) sides
    are_side_bounds zero a [] [] found are = record { sides = tt; graded = tt; exact = λ s. tt }
    are_side_bounds zero a [] (side ∷ sides) found are = absurd are
    are_side_bounds zero a (part ∷ parts) sides found are = absurd found
    are_side_bounds (suc n) a [] sides found are = absurd found
    are_side_bounds (suc n) a (part ∷ parts) [] found are = absurd are
    are_side_bounds (suc n) a (part ∷ parts) (side ∷ sides) found are =
        let one = one_side a part side found.0 are.0 in
        let rest = are_side_bounds n (a + 1) parts sides found.1 are.1 in
        record { sides = (one.enclosed, rest.sides); graded = (one.graded, rest.graded); exact = λ s. (one.exact s, rest.exact s) }
