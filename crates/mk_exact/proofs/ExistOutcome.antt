-- A market whose variables are all resolved has one possible state.
use Rattle.std.proofs.Common.{◌≡◌, ℕ, suc, ◌+◌, ◌<◌, ◌≤◌, Bool, true, false, cond, ◌&&◌, ◌||◌, eqb, List, [], ◌∷◌, length, sum_by, refl, sym, ap, ◌∙◌, arith}
use Rattle.std.specs.List.{AllByRecursion}
use Rattle.std.proofs.Math.Path.{fun_ext}
use Rattle.std.proofs.lemmas.Bool.{and_parts, eqb-true, le-leb}
use Rattle.std.proofs.lemmas.List.{ext_get_or}
use Rattle.std.proofs.lemmas.List.Sums.{sum_by-cons}
use Rattle.std.proofs.lemmas.List.Elements.{recursion_from_All}
use Rattle.mk_net.specs.declared.words.Pair.{Pair}
use Rattle.mk_net.specs.Network.{Variable, sizes, IsNetwork}
use Rattle.mk_net.specs.Events.{speaks_of}
use Rattle.mk_names.specs.Texts.{same_text}
use Rattle.mk_names.specs.inner.TextLaws.{equal_of_same_text, same_text_of_equal}
use Rattle.mk_states.specs.States.{states, numbers_below, plus_over, IsState}
use Rattle.mk_states.specs.InitialWeight.{all_states, can_come, initial_weight, value_at}
use Rattle.mk_states.specs.Events.{has, holds, always}
use Rattle.mk_exact.specs.History.{Entry, resolutions}
use Rattle.mk_exact.specs.Weight.{is_possible, possible_states}
use Rattle.mk_exact.specs.Factors.{gain, factor, IsAtLeastOne}
use Rattle.mk_exact.specs.Sound.{IsSound}
use Rattle.mk_exact.specs.Proper.{IsProper}
use Rattle.mk_exact.specs.Existing.{HasOutcome}
use Rattle.mk_states.proofs.Sums.{sums_are_plus, plus_over-states, plus_over_none, plus_over_at, sum_by_is, sum_by_each, sum_by-filter, kept_each, each_weaker}
use Rattle.mk_states.proofs.Listed.{states_are, all_can, as_many}
use Rattle.mk_exact.proofs.ExistMarkets.{safe_factor}

-- ---- one of the listed states is a given state

same_rest : (t : List ℕ) (all : List (List ℕ)) (b : Bool) → plus_over ◌+◌ 0 (λ s. cond (b && same_text t s) 1 0) all ≡ cond b (plus_over ◌+◌ 0 (λ s. cond (same_text t s) 1 0) all) 0
same_rest t all true = refl
same_rest t all false = plus_over_none ◌+◌ 0 sums_are_plus all

count_same : (sizes t : List ℕ) → IsState sizes t → plus_over ◌+◌ 0 (λ s. cond (same_text t s) 1 0) (states sizes) ≡ 1
count_same [] [] is_state = refl
count_same [] (v ∷ t) is_state = absurd (let e : suc (length t) ≡ 0 = is_state.one_each in omega arith)
count_same (size ∷ sizes) [] is_state = absurd (let e : 0 ≡ suc (length sizes) = is_state.one_each in omega arith)
count_same (size ∷ sizes) (v ∷ t) is_state =
    plus_over-states ◌+◌ 0 sums_are_plus (λ s. cond (same_text (v ∷ t) s) 1 0) size sizes
    ∙ ap (λ (f : ℕ → ℕ). plus_over ◌+◌ 0 f (numbers_below size)) (fun_ext (λ x. same_rest t (states sizes) (eqb v x)))
    ∙ plus_over_at ◌+◌ 0 sums_are_plus (λ _. plus_over ◌+◌ 0 (λ s. cond (same_text t s) 1 0) (states sizes)) size 0 v (omega arith) (omega (arith, below))
    ∙ count_same sizes t rest
  where
    below : v < size
    below = is_state.in_range 0 (omega arith)

    rest : IsState sizes t
    rest = record { one_each = let e : suc (length t) ≡ suc (length sizes) = is_state.one_each in omega arith; in_range = λ k p. is_state.in_range (suc k) (omega arith) }

-- ---- lists

length_is : {X : Type 0} (xs : List X) → sum_by (λ x. 1) xs ≡ length xs
length_is [] = refl
length_is (x ∷ xs) = omega (arith, sum_by-cons (λ (y : _). 1) x xs, length_is xs)

only_one : {X : Type 0} (P : X → Type 0) (xs : List X) → length xs ≡ 1 → AllByRecursion P xs → (x : X) × (xs ≡ x ∷ []) × P x
only_one P [] one h = absurd (omega arith)
only_one P (x ∷ []) one h = (x, refl, h.0)
only_one P (x ∷ y ∷ ys) one h = absurd (omega arith)

first_of_list : {X : Type 0} (P : X → Type 0) (xs : List X) → 1 ≤ length xs → AllByRecursion P xs → (x : X) × P x
first_of_list P [] some h = absurd (omega arith)
first_of_list P (x ∷ xs) some h = (x, h.0)

-- ---- states that have the resolved values

-- two states that hold the same pairs have the same value of each variable of these
same_value : (rs : List Pair) (s t : List ℕ) (v : ℕ) → holds rs s ≡ true → holds rs t ≡ true → speaks_of rs v ≡ true → value_at s v ≡ value_at t v
same_value [] s t v h k spoken = absurd (cc)
same_value (r ∷ rs) s t v h k spoken = at (eqb v r.variable) refl spoken (same_value rs s t v (and_parts (has r s) (holds rs s) h).1 (and_parts (has r t) (holds rs t) k).1)
  where
    first : (s : List ℕ) → holds (r ∷ rs) s ≡ true → value_at s r.variable ≡ r.value
    first s h = eqb-true (value_at s r.variable) r.value (and_parts (has r s) (holds rs s) h).0

    at : (b : Bool) → eqb v r.variable ≡ b → (b || speaks_of rs v) ≡ true → (speaks_of rs v ≡ true → value_at s v ≡ value_at t v) → value_at s v ≡ value_at t v
    at true e _ _ = let same : v ≡ r.variable = eqb-true v r.variable e in ap (value_at s) same ∙ first s h ∙ sym (first t k) ∙ ap (value_at t) (sym same)
    at false e spoken rest = rest spoken

module _ (network : List Variable) (H : List Entry) (net : IsNetwork network) (proper : IsProper network H) (resolved : (v : ℕ) → v < length network → speaks_of (resolutions H) v ≡ true) where
  same_state : (s t : List ℕ) → IsState (sizes network) s → IsState (sizes network) t → is_possible H s ≡ true → is_possible H t ≡ true → s ≡ t
  same_state s t s_is t_is h k = ext_get_or 0 s t (s_is.one_each ∙ sym t_is.one_each) (λ v p. same_value (resolutions H) s t v h k (resolved v (omega (arith, s_is.one_each, as_many network))))

  -- the states that are possible are those that are one such state
  passes_as : (t : List ℕ) → IsState (sizes network) t → can_come network t ≡ true → is_possible H t ≡ true → (s : List ℕ) → IsState (sizes network) s → (can_come network s && is_possible H s) ≡ same_text t s
  passes_as t t_is can k s s_is = at (can_come network s) refl (is_possible H s) refl (same_text t s) refl
    where
      at : (a : Bool) → can_come network s ≡ a → (b : Bool) → is_possible H s ≡ b → (c : Bool) → same_text t s ≡ c → (a && b) ≡ c
      at true a true h true e = refl
      at true a true h false e = let same = same_text_of_equal t s (sym (same_state s t s_is t_is h k)) in cc
      at true a false h true e = let same = ap (is_possible H) (equal_of_same_text t s e) in cc
      at true a false h false e = refl
      at false a b h true e = let same = ap (can_come network) (equal_of_same_text t s e) in cc
      at false a b h false e = refl

  one_possible : (t : List ℕ) → IsState (sizes network) t → can_come network t ≡ true → is_possible H t ≡ true → length (possible_states network H always) ≡ 1
  one_possible t t_is can k =
      sym (length_is (possible_states network H always))
      ∙ sum_by-filter (λ s. 1) (λ s. is_possible H s && true) (all_states network)
      ∙ sum_by-filter (λ s. cond (is_possible H s && true) 1 0) (can_come network) (states (sizes network))
      ∙ sum_by_each (λ s. cond (can_come network s) (cond (is_possible H s && true) 1 0) 0) (λ s. cond (same_text t s) 1 0) (states (sizes network))
      (each_weaker (IsState (sizes network)) (λ s. cond (can_come network s) (cond (is_possible H s && true) 1 0) 0 ≡ cond (same_text t s) 1 0)
      (λ s s_is. nested (can_come network s) (is_possible H s) 1 0 ∙ ap (λ (b : Bool). cond b 1 0) (passes_as t t_is can k s s_is)) (states (sizes network)) (states_are (sizes network)))
      ∙ sum_by_is (λ s. cond (same_text t s) 1 0) (states (sizes network))
      ∙ count_same (sizes network) t t_is
    where
      nested : (a b : Bool) (x y : ℕ) → cond a (cond (b && true) x y) y ≡ cond (a && b) x y
      nested true true x y = refl
      nested true false x y = refl
      nested false b x y = refl

  abbrev Here : List ℕ → Type 0
  Here s = (IsState (sizes network) s × (can_come network s ≡ true)) × (is_possible H s ≡ true)

  can_each : AllByRecursion (λ s. IsState (sizes network) s × (can_come network s ≡ true)) (all_states network)
  can_each = each_weaker (λ s. IsState (sizes network) s × (1 ≤ initial_weight network s)) (λ s. IsState (sizes network) s × (can_come network s ≡ true))
      (λ s h. (h.0, le-leb 1 (initial_weight network s) h.1)) (all_states network) (all_can network)

  possible_are : AllByRecursion Here (possible_states network H always)
  possible_are = recursion_from_All Here (possible_states network H always)
      (kept_each (λ s. is_possible H s && true) Here (all_states network)
      (each_weaker (λ s. IsState (sizes network) s × (can_come network s ≡ true)) (λ s. (is_possible H s && true) ≡ true → Here s) (λ s s_is e. (s_is, (and_parts (is_possible H s) true e).0)) (all_states network) can_each))

  one_state : (s : List ℕ) × (possible_states network H always ≡ s ∷ []) × IsState (sizes network) s
  one_state = at (first_of_list Here (possible_states network H always) proper.some_left possible_are)
    where
      at : (t : List ℕ) × Here t → (s : List ℕ) × (possible_states network H always ≡ s ∷ []) × IsState (sizes network) s
      at t = only_one (IsState (sizes network)) (possible_states network H always) (one_possible (t.0) (t.1).0.0 (t.1).0.1 (t.1).1)
          (each_weaker Here (IsState (sizes network)) (λ s h. h.0.0) (possible_states network H always) possible_are)

pub outcome_exists : (network : List Variable) (H : List Entry)
    → IsNetwork network → IsProper network H
    → ((v : ℕ) → v < length network → speaks_of (resolutions H) v ≡ true) → HasOutcome network H
outcome_exists network H net proper resolved = at (one_state network H net proper resolved)
  where
    at : (s : List ℕ) × (possible_states network H always ≡ s ∷ []) × IsState (sizes network) s → HasOutcome network H
    at one = record {
      state = one.0;
      one_state = one.1;
      safe = λ sound u. safe_factor H u (gain H u (one.0)) (least sound u);
    }
      where
        in_each : IsSound network H → (u : ℕ)
            → AllByRecursion (λ s. IsAtLeastOne (factor H u s)) (possible_states network H always)
        in_each sound u = recursion_from_All (λ s. IsAtLeastOne (factor H u s))
            (possible_states network H always) (sound.solvent u)

        least : IsSound network H → (u : ℕ) → IsAtLeastOne (factor H u (one.0))
        least sound u = (rw (one.1) at (in_each sound u)).0
