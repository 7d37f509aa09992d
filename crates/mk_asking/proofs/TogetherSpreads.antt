-- What a distribution is refused for by what can come, by the values that are left and by the bounds of its quote.
use Rattle.std.proofs.Common.{◌≡◌, ℕ, zero, suc, ◌+◌, ◌≤◌, ◌&&◌, ◌||◌, ◌==◌, not, nat_le, Bool, true, false, cond, List, [], ◌∷◌, length, map, find, slice_index_or, Option, Some, None, is_none, option_map, refl, sym, ap, ◌∙◌, subst, arith, ne_eqb, zero-add}
use Rattle.std.specs.Prelude.{option_and_then}
use Rattle.std.specs.List.{enumerate_from, list_any}
use Rattle.mk_net.specs.declared.words.PairText.{PairText}
use Rattle.mk_net.specs.Firsts.{fault_if}
use Rattle.mk_net.specs.Network.{Variable}
use Rattle.mk_states.specs.Events.{holds}
use Rattle.mk_exact.specs.History.{Entry}
use Rattle.mk_exact.specs.Limits.{Inside}
use Rattle.mk_spread.specs.Bounds.{Intervals, InsideEach, given_with, all_given}
use Rattle.mk_spread.specs.Markets.{value_cannot_come, values_left}
use Rattle.mk_spread.specs.Spreads.{SpreadAsked}
use Rattle.mk_spread.proofs.Left.{is_can_come, left_comes}
use Rattle.mk_spread.proofs.Suits.{SuitsTest, is_impossible, is_missed}
use Rattle.mk_quote.specs.declared.side.SideBounds.{SideBounds}
use Rattle.mk_quote.specs.Sides.{interval_for}
use Rattle.mk_quote.specs.Values.{value_interval, has_no_side, impossible_share_in, misses_share_in}
use Rattle.mk_quote.proofs.Reaching.{interval_in_range}
use Rattle.mk_quote.proofs.Rightness.{within}
use Rattle.mk_quote.proofs.Suiting.{impossible_share_by, misses_share_by}
use Rattle.mk_reply.specs.declared.refusal.Refusal.TheVariants.{Impossible, Sure, Range}
use Rattle.mk_rules.specs.Refusals.{spread_named, impossible_together, pair_with, only, sure_value, impossible_share, missing_share}
use Rattle.mk_rules.proofs.Spreads.{spread_parts}
use Rattle.mk_asking.proofs.Together.{none_together}

-- ---- a distribution, by the values that are left

module _ (network : List Variable) (H : List Entry) (v : List ℕ) (ps : List PairText) (spread : SpreadAsked) (named : spread_named network v ps ≡ Some spread) where
  pub together_left : 1 ≤ length (values_left network H spread) → impossible_together network H ps ≡ None
  together_left some =
      none_together network H ps spread.condition (spread_parts network v ps spread named).2
      (is_can_come network H (holds spread.condition) (left_comes network H spread some))

  sure_by : sure_value network H v ps ≡ option_map (λ value. Sure (pair_with network v spread value)) (only (values_left network H spread))
  sure_by = ap (option_and_then (λ (s : SpreadAsked). option_map (λ value. Sure (pair_with network v s value)) (only (values_left network H s)))) named

  pub sure_is : (value : ℕ) → values_left network H spread ≡ value ∷ [] → sure_value network H v ps ≡ Some (Sure (pair_with network v spread value))
  sure_is value alone = sure_by ∙ ap (λ (ns : List ℕ). option_map (λ value. Sure (pair_with network v spread value)) (only ns)) alone

  several : (ns : List ℕ) → 2 ≤ length ns → only ns ≡ None
  several [] two = absurd (omega arith)
  several (n ∷ []) two = absurd (omega arith)
  several (n ∷ m ∷ ns) two = refl

  pub not_sure : 2 ≤ length (values_left network H spread) → sure_value network H v ps ≡ None
  not_sure two = sure_by ∙ ap (option_map (λ value. Sure (pair_with network v spread value))) (several (values_left network H spread) two)

  -- ---- its shares, by bounds that are where sides are

  module _ (values : List (Option SideBounds)) (same : (k : ℕ) → has_no_side values k ≡ value_cannot_come network H spread k) (to : List ℕ) where
    twice_mapped : (o : Option (ℕ × ℕ)) → option_map (λ (numbered : ℕ × ℕ). Impossible (pair_with network v spread (numbered.0))) o
        ≡ option_map (λ value. Impossible (pair_with network v spread value)) (option_map (λ (numbered : ℕ × ℕ). numbered.0) o)
    twice_mapped None = refl
    twice_mapped (Some numbered) = refl

    pub impossible_by : impossible_share network H v ps to ≡ option_map (λ value. Impossible (pair_with network v spread value)) (impossible_share_in values to)
    impossible_by =
        ap (option_and_then (λ (s : SpreadAsked). option_map (λ (numbered : ℕ × ℕ). Impossible (pair_with network v s (numbered.0)))
        (find (λ (numbered : ℕ × ℕ). nat_le 1 (numbered.1) && value_cannot_come network H s (numbered.0)) (enumerate_from 0 to)))) named
        ∙ twice_mapped (find (is_impossible (value_cannot_come network H spread)) (enumerate_from 0 to))
        ∙ sym (ap (option_map (λ value. Impossible (pair_with network v spread value))) (impossible_share_by values to (value_cannot_come network H spread) same))

    pub missing_by : missing_share network H v ps to ≡ fault_if (misses_share_in values to) (Range 0)
    missing_by =
        ap (option_and_then (λ (s : SpreadAsked). fault_if (list_any (λ (numbered : ℕ × ℕ). (numbered.1 == 0) && not (value_cannot_come network H s (numbered.0))) (enumerate_from 0 to)) (Range 0))) named
        ∙ sym (ap (λ (b : Bool). fault_if b (Range 0)) (misses_share_by values to (value_cannot_come network H spread) same))

-- ---- shares inside of the intervals stand at the right places

inside_parts : (o : Option (ℕ × ℕ)) (rest : Intervals) (X : ℕ) (Xs : List ℕ) → InsideEach (given_with o rest) (X ∷ Xs) → Inside o X × InsideEach rest Xs
inside_parts None rest X Xs h = absurd h
inside_parts (Some interval) None X Xs h = absurd h
inside_parts (Some interval) (Some intervals) X Xs h = (h.0, h.1)

inside_nothing : (o : Option (ℕ × ℕ)) (rest : Intervals) → InsideEach (given_with o rest) [] → ⊥
inside_nothing None rest h = h
inside_nothing (Some interval) None h = h
inside_nothing (Some interval) (Some intervals) h = h

inside_suits : (value : Option SideBounds) (X : ℕ) → Inside (value_interval value) X → SuitsTest (is_none value) X
inside_suits None X h = omega (arith, h.0, h.1)
inside_suits (Some side) X h = (within (interval_for side) (interval_in_range side) X h).0

suited : (b : Bool) (X : ℕ) → SuitsTest b X → ((nat_le 1 X && b) ≡ false) × (((X == 0) && not b) ≡ false)
suited true zero h = (refl, refl)
suited true (suc X) h = absurd (omega (arith, h))
suited false X h = (neither (nat_le 1 X), ap (λ (b : Bool). b && true) (ne_eqb X 0 (λ none. absurd (omega (arith, h, none)))))
  where
    neither : (b : Bool) → (b && false) ≡ false
    neither true = refl
    neither false = refl

placed : (values : List (Option SideBounds)) (Xs : List ℕ) (test : ℕ → Bool) (a : ℕ) → InsideEach (all_given (map value_interval values)) Xs
    → ((k : ℕ) → test (a + k) ≡ is_none (slice_index_or values k None))
    → (find (is_impossible test) (enumerate_from a Xs) ≡ None) × (list_any (is_missed test) (enumerate_from a Xs) ≡ false)
placed [] [] test a inside same = (refl, refl)
placed [] (X ∷ Xs) test a inside same = absurd inside
placed (value ∷ values) [] test a inside same = absurd (inside_nothing (value_interval value) (all_given (map value_interval values)) inside)
placed (value ∷ values) (X ∷ Xs) test a inside same =
    let parts = inside_parts (value_interval value) (all_given (map value_interval values)) X Xs inside in
    let first : test a ≡ is_none value = ap test here ∙ same 0 in
    let here_suits = suited (test a) X (subst (λ (b : Bool). SuitsTest b X) (sym first) (inside_suits value X (parts.0))) in
    let later = placed values Xs test (a + 1) (parts.1) (λ k. ap test (further k) ∙ same (suc k)) in (
      ap (λ (b : Bool). cond b (Some (a, X)) (find (is_impossible test) (enumerate_from (a + 1) Xs))) (here_suits.0) ∙ later.0,
      ap (λ (b : Bool). b || list_any (is_missed test) (enumerate_from (a + 1) Xs)) (here_suits.1) ∙ later.1,
    )
  where
    here : a ≡ a + 0
    here = omega arith

    further : (k : ℕ) → a + 1 + k ≡ a + suc k
    further k = omega arith

pub inside_is_placed : (values : List (Option SideBounds)) (Xs : List ℕ) → InsideEach (all_given (map value_interval values)) Xs
    → (impossible_share_in values Xs ≡ None) × (misses_share_in values Xs ≡ false)
inside_is_placed values Xs inside =
    let both = placed values Xs (has_no_side values) 0 inside (λ k. ap (has_no_side values) (zero-add k)) in
    (ap (option_map (λ (numbered : ℕ × ℕ). numbered.0)) (both.0), both.1)
