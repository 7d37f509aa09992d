-- Sums over the possible states, each by its weight, and what a trade adds by its values.
use Rattle.std.proofs.Common.{◌≡◌, ◌≤◌, ℕ, ◌+◌, ◌*◌, ◌<◌, Bool, true, false, cond, eqb}
use Rattle.std.proofs.Common.{◌&&◌, List, [], ◌∷◌, length, filter, slice_index, sum_by, refl}
use Rattle.std.proofs.Common.{sym, ap, ap₂, ◌∙◌, arith, eqb-true}
use Rattle.std.specs.List.{AllByRecursion}
use Rattle.std.proofs.Math.Path.{fun_ext}
use Rattle.std.proofs.lemmas.List.Elements.{recursion_from_All}
use Rattle.std.proofs.lemmas.List.Sums.{sum_by-cons, sum_by-le-sum_by}
use Rattle.mk_net.specs.Asked.{TradeRatio}
use Rattle.mk_net.specs.Network.{Variable, sizes}
use Rattle.mk_states.specs.Events.{has, holds, always}
use Rattle.mk_exact.specs.History.{Entry}
use Rattle.mk_states.specs.InitialWeight.{all_states, value_at}
use Rattle.mk_states.specs.Ratios.{unit, ratio_at, units_of}
use Rattle.mk_states.specs.States.{numbers_below, plus_over, IsState}
use Rattle.mk_exact.specs.Weight.{weight, total, is_possible, possible_states}
use Rattle.mk_states.proofs.Sums.{sums_are_plus, plus_over-filter, plus_over_by_key, sum_by_is}
use Rattle.mk_states.proofs.Sums.{sum_by-plus, sum_by-times, list_all-append, each_weaker}
use Rattle.mk_states.proofs.Sums.{kept_each}
use Rattle.mk_states.proofs.Listed.{all_are, value_below}
use Rattle.mk_exact.proofs.Totals.{total_is}
use Rattle.mk_expect.specs.inner.Parts.{unit_bits, event_at, weight_at, values_gained, values_owed}

-- by cases on whether a state is possible, has the condition, and has the value
by_value : (p h e : Bool) (w a b : ℕ) → (e ≡ true → a ≡ b)
    → cond (p && true) (cond e (w * cond h a 0) 0) 0 ≡ b * cond (p && (h && (e && true))) w 0
by_value false h e w a b same = omega arith
by_value true false false w a b same = omega arith
by_value true false true w a b same = omega arith
by_value true true false w a b same = omega arith
by_value true true true w a b same = let s = same refl in rw s (omega arith)

module _ (network : List Variable) (H : List Entry) where
  abbrev states_left : List (List ℕ)
  states_left = possible_states network H always

  -- the sum of a number that each state has, by the weights of the possible ones
  abbrev pub mean : (List ℕ → ℕ) → ℕ
  mean f = sum_by (λ s. weight network H s * f s) states_left

  pub mean-plus : (f g : List ℕ → ℕ) → mean (λ s. f s + g s) ≡ mean f + mean g
  mean-plus f g =
      ap (λ (h : List ℕ → ℕ). sum_by h states_left)
      (fun_ext (λ s. let w = weight network H s in spread w (f s) (g s)))
      ∙ sum_by-plus (λ s. weight network H s * f s) (λ s. weight network H s * g s) states_left
    where
      spread : (w a b : ℕ) → w * (a + b) ≡ w * a + w * b
      spread w a b = omega arith

  pub mean-same : (k : ℕ) → mean (λ s. k) ≡ k * total network H always
  mean-same k =
      ap (λ (h : List ℕ → ℕ). sum_by h states_left)
      (fun_ext (λ s. let w = weight network H s in turned w))
      ∙ sum_by-times k (weight network H) states_left
    where
      turned : (w : ℕ) → w * k ≡ k * w
      turned w = omega arith

  pub mean-sum : {X : Type 0} (f : X → List ℕ → ℕ) (xs : List X)
      → mean (λ s. sum_by (λ x. f x s) xs) ≡ sum_by (λ x. mean (f x)) xs
  mean-sum f [] = mean-same 0 ∙ (let z = total network H always in omega arith)
  mean-sum f (x ∷ xs) =
      ap mean (fun_ext (λ s. sum_by-cons (λ x. f x s) x xs))
      ∙ mean-plus (f x) (λ s. sum_by (λ x. f x s) xs)
      ∙ ap (λ n. mean (f x) + n) (mean-sum f xs)
      ∙ sym (sum_by-cons (λ x. mean (f x)) x xs)

  module _ (r : TradeRatio) (within : r.variable < length network) where
    -- a number of the values, over the states where the condition holds
    on_values : (ℕ → ℕ) → List ℕ → ℕ
    on_values f s = cond (holds r.condition s) (f (value_at s r.variable)) 0

    values : ℕ
    values = slice_index (sizes network) r.variable

    one_value : (f : ℕ → ℕ) (k : ℕ)
        → plus_over ◌+◌ 0 (λ s. weight network H s * on_values f s)
        (filter (λ s. eqb (value_at s r.variable) k) states_left)
        ≡ weight_at network H r k * f k
    unfolding on_values
    one_value f k =
        plus_over-filter ◌+◌ 0 sums_are_plus (λ s. weight network H s * on_values f s)
        (λ s. eqb (value_at s r.variable) k) states_left
        ∙ plus_over-filter ◌+◌ 0 sums_are_plus
        (λ s. cond (eqb (value_at s r.variable) k) (weight network H s * on_values f s) 0)
        (λ s. is_possible H s && true) (all_states network)
        ∙ sym (sum_by_is (λ s. cond (is_possible H s && true) (cond (eqb (value_at s r.variable) k)
        (weight network H s * on_values f s) 0) 0) (all_states network))
        ∙ ap (λ (g : List ℕ → ℕ). sum_by g (all_states network)) (fun_ext each)
        ∙ sum_by-times (f k) (λ s. cond (is_possible H s && holds (event_at r k) s)
        (weight network H s) 0) (all_states network)
        ∙ ap (λ n. f k * n) (sym (total_is network H (holds (event_at r k))))
        ∙ turned (f k) (weight_at network H r k)
      where
        turned : (a b : ℕ) → a * b ≡ b * a
        turned a b = omega arith

        same : (s : List ℕ) → eqb (value_at s r.variable) k ≡ true → f (value_at s r.variable) ≡ f k
        same s e = ap f (eqb-true (value_at s r.variable) k e)

        each : (s : List ℕ) → cond (is_possible H s && true) (cond (eqb (value_at s r.variable) k)
            (weight network H s * cond (holds r.condition s) (f (value_at s r.variable)) 0) 0) 0
            ≡ f k * cond (is_possible H s && holds (event_at r k) s) (weight network H s) 0
        each s =
            by_value (is_possible H s) (holds r.condition s) (eqb (value_at s r.variable) k)
            (weight network H s) (f (value_at s r.variable)) (f k) (same s)
            ∙ ap (λ b. f k * cond (is_possible H s && b) (weight network H s) 0)
            (sym (list_all-append (λ p. has p s) r.condition
            (record { variable = r.variable; value = k } ∷ [])))

    by_values : (f : ℕ → ℕ) → mean (on_values f)
        ≡ plus_over ◌+◌ 0 (λ k. weight_at network H r k * f k) (numbers_below values)
    unfolding values
    by_values f =
        sum_by_is (λ s. weight network H s * on_values f s) states_left
        ∙ sym (plus_over_by_key ◌+◌ 0 sums_are_plus (λ s. weight network H s * on_values f s)
        (λ s. value_at s r.variable) (slice_index (sizes network) r.variable) states_left
        (each_left (λ s. value_at s r.variable < slice_index (sizes network) r.variable)
        (λ s st. value_below network r.variable s within st)))
        ∙ ap (λ (g : ℕ → ℕ). plus_over ◌+◌ 0 g
        (numbers_below (slice_index (sizes network) r.variable))) (fun_ext (one_value f))
      where
        each_left : (P : List ℕ → Type 0) → ((s : List ℕ) → IsState (sizes network) s → P s)
            → AllByRecursion P states_left
        each_left P h = recursion_from_All P states_left
            (kept_each (λ s. is_possible H s && true) P (all_states network)
            (each_weaker (IsState (sizes network)) (λ s. (is_possible H s && true) ≡ true → P s)
            (λ s st _. h s st) (all_states network) (all_are network)))

    -- the bits of whole units where a condition holds are at most those everywhere
    pub owed_at_most : length r.factors ≡ slice_index (sizes network) r.variable
        → values_owed network H r (length r.factors) ≤ unit_bits * total network H always
    unfolding values on_values
    owed_at_most each =
        let whole = λ (k : ℕ). unit_bits in
        let e : values_owed network H r (length r.factors) ≡ mean (on_values whole) =
        ap (λ n. values_owed network H r n) each ∙ sym (by_values whole) in
        let l : mean (on_values whole) ≤ mean (λ s. unit_bits) =
        sum_by-le-sum_by (λ s. weight network H s * on_values whole s)
        (λ s. weight network H s * unit_bits) states_left
        (λ s. fewer (holds r.condition s) (weight network H s)) in
        let m = mean-same unit_bits in
        omega (arith, e, l, m)
      where
        fewer : (h : Bool) (w : ℕ) → w * cond h unit_bits 0 ≤ w * unit_bits
        fewer true w = omega arith
        fewer false w = omega arith

    -- the bits of a trade's ratio, and whole units where its condition holds, are those of its
    -- values, and whole units everywhere
    pub trade_is : (bits : ℕ → ℕ) → bits unit ≡ unit_bits
        → length r.factors ≡ slice_index (sizes network) r.variable
        → mean (λ s. bits (ratio_at r s)) + values_owed network H r (length r.factors)
        ≡ values_gained network H bits r (length r.factors) + unit_bits * total network H always
    unfolding values on_values
    trade_is bits one each =
        let units = λ (k : ℕ). bits (units_of r k) in
        let whole = λ (k : ℕ). unit_bits in
        ap (λ n. mean (λ s. bits (ratio_at r s)) + values_owed network H r n) each
        ∙ ap (λ n. mean (λ s. bits (ratio_at r s)) + n) (sym (by_values whole))
        ∙ sym (mean-plus (λ s. bits (ratio_at r s)) (on_values whole))
        ∙ ap mean (fun_ext (λ s. parted (holds r.condition s) (units_of r (value_at s r.variable))))
        ∙ mean-plus (on_values units) (λ s. unit_bits)
        ∙ ap₂ ◌+◌ (by_values units) (mean-same unit_bits)
        ∙ ap (λ n. values_gained network H bits r n + unit_bits * total network H always)
        (sym each)
      where
        parted : (h : Bool) (a : ℕ) → bits (cond h a unit) + cond h unit_bits 0
            ≡ cond h (bits a) 0 + unit_bits
        parted true a = refl
        parted false a = omega (arith, one)
