-- A belief in an event that is apart: each of its states has one unit of every ratio.
use Rattle.std.proofs.Common.{◌≡◌, ◌≢◌, ℕ, ◌+◌, ◌*◌, ◌^◌, ◌≤◌, Bool, true, false, cond, not, ◌&&◌, ◌==◌, List, [], ◌∷◌, map, filter, sum_by, count_by, All, refl, sym, ap, subst, ◌∙◌, arith, ne_eqb, ◌⊎◌, inl, inr, slice_index}
use Rattle.std.proofs.Math.Nat.{add-mul, mul_assoc, mul_comm, one-mul}
use Rattle.std.proofs.lemmas.Nat.{pow-add}
use Rattle.std.specs.List.{Contains, AllByRecursion}
use Rattle.std.proofs.lemmas.Bool.{both_ways, cases_Bool, and_parts, eqb-true}
use Rattle.std.proofs.lemmas.List.Folds.{list_all_at}
use Rattle.std.proofs.lemmas.List.Sums.{sum_by-cons}
use Rattle.std.proofs.lemmas.List.Elements.{recursion_from_All}
use Rattle.mk_net.specs.declared.words.Pair.{Pair}
use Rattle.mk_net.specs.Asked.{TradeRatio}
use Rattle.mk_net.specs.Network.{Variable, sizes}
use Rattle.mk_states.specs.States.{states, plus_over, product_by}
use Rattle.mk_states.specs.InitialWeight.{value_at}
use Rattle.mk_states.specs.Events.{holds}
use Rattle.mk_states.specs.Lawful.{Lawful}
use Rattle.mk_states.proofs.Sums.{plus_over-map, sum_by_is}
use Rattle.mk_sums.specs.There.{holds_there, ratio_there}
use Rattle.mk_engine.specs.Meaning.{Meaning, Factor, RowsOf, SupportOf, RatioOf, is_ratio, factor_there, exact_belief, whole_sum}
use Rattle.mk_engine.specs.Apart.{HasCondition, IsApart, without_ratios}

-- ---- a pair of a list, where all hold or where one does not

-- where an event holds, each of its pairs does
pair_holds : (event : List Pair) (a : ℕ → ℕ) (p : Pair) → holds_there event a ≡ true → Contains event p → a p.variable ≡ p.value
pair_holds event a p h in_event = at (cases_Bool (a p.variable == p.value))
  where
    at : (((a p.variable == p.value) ≡ true) ⊎ ((a p.variable == p.value) ≡ false)) → a p.variable ≡ p.value
    at (inl e) = eqb-true (a p.variable) p.value e
    at (inr e) =
        absurd (both_ways (holds_there event a)
        (list_all_at (λ (q : Pair). a q.variable == q.value) event in_event.0 p in_event.1 (ap (λ (q : Pair). a q.variable == q.value) in_event.2 ∙ e)) h)

-- a ratio whose condition has a pair that does not hold is one unit
ratio_is_unit : (ratio : TradeRatio) (a : ℕ → ℕ) (p : Pair) → Contains ratio.condition p → a p.variable ≢ p.value → ratio_there ratio a ≡ 2 ^ 40
ratio_is_unit ratio a p in_condition d =
    let none : holds_there ratio.condition a ≡ false =
    list_all_at (λ (q : Pair). a q.variable == q.value) ratio.condition in_condition.0 p in_condition.1 (ap (λ (q : Pair). a q.variable == q.value) in_condition.2 ∙ ne_eqb (a p.variable) p.value d) in
    ap (λ (b : Bool). cond b (slice_index ratio.factors (a ratio.variable)) (2 ^ 40)) none

-- ---- the product of all factors, where each ratio is one unit

-- how many of them are ratios
abbrev pub ratio_count : List Factor → ℕ
ratio_count fs = count_by is_ratio fs

module _ (network : List Variable) (a : ℕ → ℕ) (p : Pair) (d : a p.variable ≢ p.value) where
  abbrev there : Factor → ℕ
  there f = factor_there network f a

  abbrev others : List Factor → List Factor
  others fs = filter (λ f. not (is_ratio f)) fs

  counted : (f : Factor) (fs : List Factor) → ratio_count (f ∷ fs) ≡ cond (is_ratio f) 1 0 + ratio_count fs
  counted f fs = sum_by-cons (λ (g : Factor). cond (is_ratio g) 1 0) f fs

  kept : (f : Factor) (fs : List Factor) → ratio_count (f ∷ fs) ≡ ratio_count fs → product_by there fs ≡ product_by there (others fs) * 2 ^ (40 * ratio_count fs)
      → there f * product_by there fs ≡ there f * product_by there (others fs) * 2 ^ (40 * ratio_count (f ∷ fs))
  kept f fs same ih =
      ap (λ n. there f * n) ih ∙ sym (mul_assoc (there f) (product_by there (others fs)) (2 ^ (40 * ratio_count fs)))
      ∙ ap (λ n. there f * product_by there (others fs) * 2 ^ (40 * n)) (sym same)

  product_apart : (fs : List Factor) → AllByRecursion (HasCondition p) fs → product_by there fs ≡ product_by there (others fs) * 2 ^ (40 * ratio_count fs)
  product_apart [] h = refl
  product_apart (RowsOf k ∷ fs) h = kept (RowsOf k) fs (let c = counted (RowsOf k) fs in omega (arith, c)) (product_apart fs h.1)
  product_apart (SupportOf k ∷ fs) h = kept (SupportOf k) fs (let c = counted (SupportOf k) fs in omega (arith, c)) (product_apart fs h.1)
  product_apart (RatioOf r ∷ fs) h =
      let n = ratio_count fs in let rest = product_by there (others fs) in
      let more : 40 * n + 40 ≡ 40 * ratio_count (RatioOf r ∷ fs) = let c = counted (RatioOf r) fs in omega (arith, c) in
      ap (λ u. u * product_by there fs) (ratio_is_unit r a p h.0 d)
      ∙ mul_comm (2 ^ 40) (product_by there fs)
      ∙ ap (λ u. u * 2 ^ 40) (product_apart fs h.1)
      ∙ mul_assoc rest (2 ^ (40 * n)) (2 ^ 40)
      ∙ ap (λ u. rest * u) (sym (pow-add 2 (40 * n) 40))
      ∙ ap (λ u. rest * 2 ^ u) more

-- ---- the plus of what passes a test

scaled_at_most : {X : Type 0} (plus : ℕ → ℕ → ℕ) → Lawful plus → (f g : X → ℕ) (c : ℕ) (test : X → Bool) → ((x : X) → test x ≡ true → f x ≡ g x * c) → (xs : List X)
    → plus_over plus 0 f (filter test xs) ≤ plus_over ◌+◌ 0 g xs * c
scaled_at_most plus law f g c test same [] = omega arith
scaled_at_most {X} plus law f g c test same (x ∷ xs) = at (test x) (same x) (scaled_at_most plus law f g c test same xs)
  where
    at : (b : Bool) → (b ≡ true → f x ≡ g x * c) → plus_over plus 0 f (filter test xs) ≤ plus_over ◌+◌ 0 g xs * c → plus_over plus 0 f (cond b (x ∷ filter test xs) (filter test xs)) ≤ (g x + plus_over ◌+◌ 0 g xs) * c
    at true e ih =
        let q = law.bounded (f x) (plus_over plus 0 f (filter test xs)) in let k = e refl in let m = add-mul (g x) (plus_over ◌+◌ 0 g xs) c in omega (arith, ih, q, k, m)
    at false e ih = let m = add-mul (g x) (plus_over ◌+◌ 0 g xs) c in omega (arith, ih, m)

-- the belief is at most what the sum over all states is without the ratios, times a unit for each of them
pub apart_at_most : (plus : ℕ → ℕ → ℕ) → Lawful plus → (m : Meaning) (event : List Pair) → IsApart m event → exact_belief plus m event ≤ whole_sum (without_ratios m) * 2 ^ (40 * ratio_count m.factors)
apart_at_most plus law m event h =
    let f : List ℕ → ℕ = λ s. product_by (λ (f : (ℕ → ℕ) → ℕ). f (value_at s)) (map (factor_there m.network) m.factors) in
    let g : List ℕ → ℕ = λ s. product_by (λ (f : Factor). factor_there m.network f (value_at s)) (without_ratios m).factors in
    let l = scaled_at_most plus law f g (2 ^ (40 * ratio_count m.factors)) (λ s. holds m.known s && holds event s) there (states (sizes m.network)) in
    let w = ap (λ n. n * 2 ^ (40 * ratio_count m.factors)) (sum_by_is g (states (sizes m.network))) in
    omega (arith, l, w)
  where
    -- the event's states do not have the pair
    without : (s : List ℕ) → holds event s ≡ true → value_at s h.pair.variable ≢ h.pair.value
    without s e v = h.another_value (sym (pair_holds event (value_at s) h.other e h.in_event) ∙ ap (value_at s) h.same_variable ∙ v)

    there : (s : List ℕ) → (holds m.known s && holds event s) ≡ true
        → product_by (λ (f : (ℕ → ℕ) → ℕ). f (value_at s)) (map (factor_there m.network) m.factors)
        ≡ product_by (λ (f : Factor). factor_there m.network f (value_at s)) (without_ratios m).factors * 2 ^ (40 * ratio_count m.factors)
    there s e =
        plus_over-map ◌*◌ 1 (λ (f : (ℕ → ℕ) → ℕ). f (value_at s)) (factor_there m.network) m.factors
        ∙ product_apart m.network (value_at s) h.pair (without s (and_parts (holds m.known s) (holds event s) e).1) m.factors (recursion_from_All (HasCondition h.pair) m.factors h.in_each)
