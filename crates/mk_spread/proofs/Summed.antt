-- The weights that a trade of a whole distribution makes, value by value.
use Rattle.std.proofs.Common.{◌≡◌, ℕ, suc, ◌+◌, ◌*◌, ◌<◌, ◌≤◌, Bool, true, false, cond, eqb, ◌&&◌, List, [], ◌∷◌, length, slice_index, sum_by, sum, filter, refl, sym, ap, ◌∙◌, arith, eqb-true}
use Rattle.std.specs.List.{range_with_len}
use Rattle.std.proofs.Math.Path.{fun_ext}
use Rattle.std.proofs.lemmas.List.Sums.{sum_by-cons}
use Rattle.std.proofs.lemmas.List.Elements.{All-filter, All-from_recursion, recursion_from_All}
use Rattle.mk_net.specs.Network.{Variable, sizes}
use Rattle.mk_states.specs.States.{IsState, plus_over, numbers_below}
use Rattle.mk_states.specs.InitialWeight.{all_states, value_at}
use Rattle.mk_states.specs.Events.{holds, with_target}
use Rattle.mk_states.specs.Ratios.{unit, ratio_at}
use Rattle.mk_exact.specs.History.{Entry}
use Rattle.mk_exact.specs.Weight.{weight, total, is_possible, possible_states}
use Rattle.mk_states.proofs.Sums.{sums_are_plus, plus_over-filter, plus_over_by_key, sum_by_is, sum_by-times, sum_by-filter, each_weaker}
use Rattle.mk_states.proofs.Listed.{all_are, value_below}
use Rattle.mk_exact.proofs.Totals.{total_is, traded_sum}
use Rattle.mk_spread.specs.Spreads.{SpreadAsked, asked_of, spread_ratio}

-- by cases on whether a state is possible, has the condition, and has the value
by_value : (p h e : Bool) (w a b U : ℕ) → (e ≡ true → a ≡ b) → cond (p && h) (cond e (w * cond h a U) 0) 0 ≡ b * cond (p && (h && e)) w 0
by_value false h e w a b U same = omega arith
by_value true false e w a b U same = omega arith
by_value true true false w a b U same = omega arith
by_value true true true w a b U same = let s = same refl in rw s (omega arith)

by_weight : (p h e : Bool) (w : ℕ) → cond (p && h) (cond e w 0) 0 ≡ cond (p && (h && e)) w 0
by_weight false h e w = refl
by_weight true false e w = refl
by_weight true true e w = refl

by_target : (p h e : Bool) (w a b U : ℕ) → (e ≡ true → a ≡ b) → cond (p && (h && e)) (w * cond h a U) 0 ≡ b * cond (p && (h && e)) w 0
by_target false h e w a b U same = omega arith
by_target true false e w a b U same = omega arith
by_target true true false w a b U same = omega arith
by_target true true true w a b U same = let s = same refl in rw s (omega arith)

module _ (network : List Variable) (H : List Entry) (spread : SpreadAsked) where
  -- the weight of the states with one value
  abbrev pub part_of : ℕ → ℕ
  part_of k = total network H (with_target (asked_of spread k))

  abbrev condition_states : List (List ℕ)
  condition_states = possible_states network H (holds spread.condition)

  -- over the states where the condition holds: first those with the first value, then those with the next
  by_key : (f : List ℕ → ℕ) → spread.variable < length network
      → sum_by f condition_states ≡ plus_over ◌+◌ 0 (λ k. plus_over ◌+◌ 0 f (filter (λ s. eqb (value_at s spread.variable) k) condition_states)) (numbers_below (slice_index (sizes network) spread.variable))
  by_key f within =
      sum_by_is f condition_states
      ∙ sym (plus_over_by_key ◌+◌ 0 sums_are_plus f (λ s. value_at s spread.variable) (slice_index (sizes network) spread.variable) condition_states
      (recursion_from_All (λ s. value_at s spread.variable < slice_index (sizes network) spread.variable) condition_states
      (All-filter (λ s. is_possible H s && holds spread.condition s) (λ s. value_at s spread.variable < slice_index (sizes network) spread.variable) (all_states network)
      (All-from_recursion (λ s. value_at s spread.variable < slice_index (sizes network) spread.variable) (all_states network)
      (each_weaker (IsState (sizes network)) (λ s. value_at s spread.variable < slice_index (sizes network) spread.variable) (λ s is_state. value_below network spread.variable s within is_state) (all_states network) (all_are network))))))

  -- those with one value
  of_value : (f : List ℕ → ℕ) (k : ℕ)
      → plus_over ◌+◌ 0 f (filter (λ s. eqb (value_at s spread.variable) k) condition_states)
      ≡ sum_by (λ s. cond (is_possible H s && holds spread.condition s) (cond (eqb (value_at s spread.variable) k) (f s) 0) 0) (all_states network)
  of_value f k =
      plus_over-filter ◌+◌ 0 sums_are_plus f (λ s. eqb (value_at s spread.variable) k) condition_states
      ∙ plus_over-filter ◌+◌ 0 sums_are_plus (λ s. cond (eqb (value_at s spread.variable) k) (f s) 0) (λ s. is_possible H s && holds spread.condition s) (all_states network)
      ∙ sym (sum_by_is (λ s. cond (is_possible H s && holds spread.condition s) (cond (eqb (value_at s spread.variable) k) (f s) 0) 0) (all_states network))

  -- the weights of the values make up that of the condition
  pub total_by_value : spread.variable < length network
      → total network H (holds spread.condition) ≡ plus_over ◌+◌ 0 part_of (numbers_below (slice_index (sizes network) spread.variable))
  total_by_value within =
      by_key (weight network H) within
      ∙ ap (λ (g : ℕ → ℕ). plus_over ◌+◌ 0 g (numbers_below (slice_index (sizes network) spread.variable))) (fun_ext each)
    where
      each : (k : ℕ) → plus_over ◌+◌ 0 (weight network H) (filter (λ s. eqb (value_at s spread.variable) k) condition_states) ≡ part_of k
      each k =
          of_value (weight network H) k
          ∙ ap (λ (g : List ℕ → ℕ). sum_by g (all_states network))
          (fun_ext (λ s. by_weight (is_possible H s) (holds spread.condition s) (eqb (value_at s spread.variable) k) (weight network H s)))
          ∙ sym (total_is network H (with_target (asked_of spread k)))

  module _ (Fs : List ℕ) where
    -- the units at a state's value are those of the value
    same_units : (s : List ℕ) (k : ℕ) → eqb (value_at s spread.variable) k ≡ true → slice_index Fs (value_at s spread.variable) ≡ slice_index Fs k
    same_units s k e = ap (λ (v : ℕ). slice_index Fs v) (eqb-true (value_at s spread.variable) k e)

    times_part : (k : ℕ) → sum_by (λ s. slice_index Fs k * cond (is_possible H s && with_target (asked_of spread k) s) (weight network H s) 0) (all_states network) ≡ slice_index Fs k * part_of k
    times_part k =
        sum_by-times (slice_index Fs k) (λ s. cond (is_possible H s && with_target (asked_of spread k) s) (weight network H s) 0) (all_states network)
        ∙ ap (λ n. slice_index Fs k * n) (sym (total_is network H (with_target (asked_of spread k))))

    pub traded_by_value : spread.variable < length network
        → traded_sum network H (spread_ratio spread Fs) (holds spread.condition) ≡ plus_over ◌+◌ 0 (λ k. slice_index Fs k * part_of k) (numbers_below (slice_index (sizes network) spread.variable))
    traded_by_value within =
        by_key traded_weight within
        ∙ ap (λ (g : ℕ → ℕ). plus_over ◌+◌ 0 g (numbers_below (slice_index (sizes network) spread.variable))) (fun_ext each)
      where
        traded_weight : List ℕ → ℕ
        traded_weight s = weight network H s * ratio_at (spread_ratio spread Fs) s

        each : (k : ℕ) → plus_over ◌+◌ 0 traded_weight (filter (λ s. eqb (value_at s spread.variable) k) condition_states) ≡ slice_index Fs k * part_of k
        each k =
            of_value traded_weight k
            ∙ ap (λ (g : List ℕ → ℕ). sum_by g (all_states network))
            (fun_ext (λ s. by_value (is_possible H s) (holds spread.condition s) (eqb (value_at s spread.variable) k) (weight network H s) (slice_index Fs (value_at s spread.variable)) (slice_index Fs k) unit (same_units s k)))
            ∙ times_part k

    pub traded_value : (k : ℕ) → traded_sum network H (spread_ratio spread Fs) (with_target (asked_of spread k)) ≡ slice_index Fs k * part_of k
    traded_value k =
        sum_by-filter (λ s. weight network H s * ratio_at (spread_ratio spread Fs) s) (λ s. is_possible H s && with_target (asked_of spread k) s) (all_states network)
        ∙ ap (λ (g : List ℕ → ℕ). sum_by g (all_states network))
        (fun_ext (λ s. by_target (is_possible H s) (holds spread.condition s) (eqb (value_at s spread.variable) k) (weight network H s) (slice_index Fs (value_at s spread.variable)) (slice_index Fs k) unit (same_units s k)))
        ∙ times_part k

first_place : (a : ℕ) → a + 0 ≡ a
first_place a = omega arith

next_place : (a k : ℕ) → a + suc k ≡ a + 1 + k
next_place a k = omega arith

-- a sum over the values stays within that of the shares, where each does
pub sum_within : (g : ℕ → ℕ) (m c : ℕ) (Xs : List ℕ) (a : ℕ) → ((k : ℕ) → k < length Xs → g (a + k) * m ≤ slice_index Xs k * c)
    → plus_over ◌+◌ 0 g (range_with_len a (length Xs)) * m ≤ sum Xs * c
sum_within g m c [] a h = omega arith
sum_within g m c (X ∷ Xs) a h =
    let first : g a * m ≤ X * c = rw (first_place a) at (h 0 (omega arith)) in
    let rest : plus_over ◌+◌ 0 g (range_with_len (a + 1) (length Xs)) * m ≤ sum Xs * c = sum_within g m c Xs (a + 1) (λ k p. rw (next_place a k) at (h (suc k) (omega arith))) in
    rw (sum_by-cons (λ x. x) X Xs) (omega arith)

-- and at least that of the shares, where each is
pub sum_beyond : (g : ℕ → ℕ) (m c : ℕ) (Xs : List ℕ) (a : ℕ) → ((k : ℕ) → k < length Xs → slice_index Xs k * c ≤ g (a + k) * m)
    → sum Xs * c ≤ plus_over ◌+◌ 0 g (range_with_len a (length Xs)) * m
sum_beyond g m c [] a h = omega arith
sum_beyond g m c (X ∷ Xs) a h =
    let first : X * c ≤ g a * m = rw (first_place a) at (h 0 (omega arith)) in
    let rest : sum Xs * c ≤ plus_over ◌+◌ 0 g (range_with_len (a + 1) (length Xs)) * m = sum_beyond g m c Xs (a + 1) (λ k p. rw (next_place a k) at (h (suc k) (omega arith))) in
    rw (sum_by-cons (λ x. x) X Xs) (omega arith)
