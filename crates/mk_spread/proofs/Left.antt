-- Which values of a variable are left where a condition holds: those with a side.
use Rattle.std.proofs.Common.{◌≡◌, ℕ, zero, suc, ◌+◌, ◌<◌, ◌≤◌, ◌⊎◌, Bool, true, false, cond, not, ◌&&◌, is_none, List, [], ◌∷◌, length, slice_index, filter, Option, Some, None, IsSomeAnd, refl, sym, ap, ◌∙◌, subst, inl, inr, arith, eqb-true, eq-eqb, ne_eqb}
use Rattle.std.specs.List.{AllByRecursion, range_with_len}
use Rattle.std.proofs.lemmas.Bool.{and_from, and_parts, cases_lt}
use Rattle.mk_net.specs.Network.{Variable, sizes}
use Rattle.mk_states.specs.States.{IsState}
use Rattle.mk_states.specs.InitialWeight.{all_states, value_at}
use Rattle.mk_states.specs.Events.{has, holds, with_target, without_target}
use Rattle.mk_exact.specs.History.{Entry}
use Rattle.mk_exact.specs.Weight.{is_possible, possible_states, cannot_come}
use Rattle.mk_exact.specs.Factors.{gain, lesser, least_by, factor_with}
use Rattle.mk_exact.specs.Prices.{price_where}
use Rattle.mk_exact.specs.Limits.{Side}
use Rattle.mk_states.proofs.Listed.{all_are, value_below}
use Rattle.mk_exact.proofs.ExistMarkets.{passing_stay}
use Rattle.mk_spread.specs.Spreads.{SpreadAsked, asked_of}
use Rattle.mk_spread.specs.Markets.{IsValueSide, value_cannot_come, values_left}

-- ---- lists

-- there is no least of nothing alone
pub none_least : {X : Type 0} (f : X → ℕ) (xs : List X) → least_by f xs ≡ None → length xs ≡ 0
none_least f [] e = refl
none_least {X} f (x ∷ xs) e = absurd (some (least_by f xs) e)
  where
    some : (o : Option ℕ) → lesser (Some (f x)) o ≡ None → ⊥
    some None h = cc
    some (Some m) h = cc

pub least_none : {X : Type 0} (f : X → ℕ) (xs : List X) → length xs ≡ 0 → least_by f xs ≡ None
least_none f [] e = refl
least_none f (x ∷ xs) e = absurd (omega arith)

-- a number of a range that a test keeps
pub record IsKept (p : ℕ → Bool) (a n k : ℕ) : Type 0 where
  pub from : a ≤ k
  pub below : k < a + n
  pub passes : p k ≡ true

-- the numbers of a range after one that is kept or not
module _ (p : ℕ → Bool) (n a : ℕ) where
  is_longer : (k : ℕ) → IsKept p (a + 1) n k → IsKept p a (suc n) k
  is_longer k r = record { from = omega (arith, r.from); below = omega (arith, r.below); passes = r.passes }

  is_first : p a ≡ true → IsKept p a (suc n) a
  is_first e = record { from = omega arith; below = omega arith; passes = e }

  -- where the first is not kept, what is kept comes later
  is_later : (k : ℕ) → p a ≡ false → IsKept p a (suc n) k → IsKept p (a + 1) n k
  is_later k e r = at (cases_lt a k)
    where
      at : (a < k) ⊎ (k ≤ a) → IsKept p (a + 1) n k
      at (inl q) = record { from = omega arith; below = omega (arith, r.below); passes = r.passes }
      at (inr q) = let same : a ≡ k = omega (arith, r.from) in let other : p a ≡ true = ap p same ∙ r.passes in absurd (cc)

  first_of : (b : Bool) → p a ≡ b → 1 ≤ length (cond b (a ∷ filter p (range_with_len (a + 1) n)) (filter p (range_with_len (a + 1) n)))
      → (1 ≤ length (filter p (range_with_len (a + 1) n)) → (k : ℕ) × IsKept p (a + 1) n k) → (k : ℕ) × IsKept p a (suc n) k
  first_of true e some later = (a, is_first e)
  first_of false e some later = at (later some)
    where
      at : (k : ℕ) × IsKept p (a + 1) n k → (k : ℕ) × IsKept p a (suc n) k
      at r = (r.0, is_longer (r.0) (r.1))

  other_of : (k : ℕ) (b : Bool) → p a ≡ b → 2 ≤ length (cond b (a ∷ filter p (range_with_len (a + 1) n)) (filter p (range_with_len (a + 1) n)))
      → (1 ≤ length (filter p (range_with_len (a + 1) n)) → (j : ℕ) × IsKept p (a + 1) n j)
      → (2 ≤ length (filter p (range_with_len (a + 1) n)) → (j : ℕ) × IsKept p (a + 1) n j × (j ≡ k → ⊥)) → (j : ℕ) × IsKept p a (suc n) j × (j ≡ k → ⊥)
  other_of k true e two first later = at (cases_lt a k) (cases_lt k a)
    where
      next : k ≤ a → (j : ℕ) × IsKept p (a + 1) n j → (j : ℕ) × IsKept p a (suc n) j × (j ≡ k → ⊥)
      next q r = (r.0, is_longer (r.0) (r.1), λ same. absurd (omega (arith, r.1.from, same, q)))

      at : (a < k) ⊎ (k ≤ a) → (k < a) ⊎ (a ≤ k) → (j : ℕ) × IsKept p a (suc n) j × (j ≡ k → ⊥)
      at (inl q) _ = (a, is_first e, λ same. absurd (omega arith))
      at (inr q) (inl r) = (a, is_first e, λ same. absurd (omega arith))
      at (inr q) (inr r) = next q (first (omega arith))
  other_of k false e two first later = at (later two)
    where
      at : (j : ℕ) × IsKept p (a + 1) n j × (j ≡ k → ⊥) → (j : ℕ) × IsKept p a (suc n) j × (j ≡ k → ⊥)
      at r = (r.0, is_longer (r.0) (r.1), r.2)

  one_of : (k : ℕ) (b : Bool) → p a ≡ b → IsKept p a (suc n) k → ((j : ℕ) → IsKept p a (suc n) j → j ≡ k)
      → (((j : ℕ) → IsKept p (a + 1) n j → ⊥) → filter p (range_with_len (a + 1) n) ≡ [])
      → (IsKept p (a + 1) n k → ((j : ℕ) → IsKept p (a + 1) n j → j ≡ k) → filter p (range_with_len (a + 1) n) ≡ k ∷ [])
      → cond b (a ∷ filter p (range_with_len (a + 1) n)) (filter p (range_with_len (a + 1) n)) ≡ k ∷ []
  one_of k true e r one nothing later =
      let same : a ≡ k = one a (is_first e) in
      ap (λ (i : ℕ). i ∷ filter p (range_with_len (a + 1) n)) same
      ∙ ap (λ (ks : List ℕ). k ∷ ks) (nothing (λ j kept. absurd (omega (arith, kept.from, one j (is_longer j kept), same))))
  one_of k false e r one nothing later = later (is_later k e r) (λ j kept. one j (is_longer j kept))

  alone_of : (k : ℕ) (b : Bool) → p a ≡ b → cond b (a ∷ filter p (range_with_len (a + 1) n)) (filter p (range_with_len (a + 1) n)) ≡ k ∷ []
      → ((j : ℕ) → IsKept p (a + 1) n j → 1 ≤ length (filter p (range_with_len (a + 1) n)))
      → (filter p (range_with_len (a + 1) n) ≡ k ∷ [] → IsKept p (a + 1) n k × ((j : ℕ) → IsKept p (a + 1) n j → j ≡ k))
      → IsKept p a (suc n) k × ((j : ℕ) → IsKept p a (suc n) j → j ≡ k)
  alone_of k true e same some later = (subst (IsKept p a (suc n)) here (is_first e), λ j r. at j r (cases_lt a j))
    where
      here : a ≡ k
      here = cc

      nothing : filter p (range_with_len (a + 1) n) ≡ []
      nothing = cc

      at : (j : ℕ) → IsKept p a (suc n) j → (a < j) ⊎ (j ≤ a) → j ≡ k
      at j r (inl q) = let kept = some j (record { from = omega arith; below = omega (arith, r.below); passes = r.passes }) in absurd (omega (arith, kept, ap length nothing))
      at j r (inr q) = omega (arith, r.from, here)
  alone_of k false e same some later = let both = later same in (is_longer k both.0, λ j r. both.1 j (is_later j e r))

pub kept_some : (p : ℕ → Bool) (n a k : ℕ) → IsKept p a n k → 1 ≤ length (filter p (range_with_len a n))
kept_some p zero a k r = absurd (omega (arith, r.from, r.below))
kept_some p (suc n) a k r = at (p a) refl (λ later. kept_some p n (a + 1) k later)
  where
    at : (b : Bool) → p a ≡ b → (IsKept p (a + 1) n k → 1 ≤ length (filter p (range_with_len (a + 1) n)))
        → 1 ≤ length (cond b (a ∷ filter p (range_with_len (a + 1) n)) (filter p (range_with_len (a + 1) n)))
    at true e later = omega arith
    at false e later = later (is_later p n a k e r)

pub first_kept : (p : ℕ → Bool) (n a : ℕ) → 1 ≤ length (filter p (range_with_len a n)) → (k : ℕ) × IsKept p a n k
first_kept p zero a some = absurd (omega arith)
first_kept p (suc n) a some = first_of p n a (p a) refl some (λ more. first_kept p n (a + 1) more)

-- where two are kept, so is another than any one
pub other_kept : (p : ℕ → Bool) (n a k : ℕ) → 2 ≤ length (filter p (range_with_len a n)) → (j : ℕ) × IsKept p a n j × (j ≡ k → ⊥)
other_kept p zero a k two = absurd (omega arith)
other_kept p (suc n) a k two = other_of p n a k (p a) refl two (λ more. first_kept p n (a + 1) more) (λ more. other_kept p n (a + 1) k more)

none_kept : (p : ℕ → Bool) (n a : ℕ) → ((k : ℕ) → IsKept p a n k → ⊥) → filter p (range_with_len a n) ≡ []
none_kept p n a none = at (filter p (range_with_len a n)) (λ some. none (first_kept p n a some).0 (first_kept p n a some).1)
  where
    at : (ks : List ℕ) → (1 ≤ length ks → ⊥) → ks ≡ []
    at [] h = refl
    at (k ∷ ks) h = absurd (h (omega arith))

-- where one alone passes, it alone is kept
pub one_kept : (p : ℕ → Bool) (n a k : ℕ) → IsKept p a n k → ((j : ℕ) → IsKept p a n j → j ≡ k) → filter p (range_with_len a n) ≡ k ∷ []
one_kept p zero a k r one = absurd (omega (arith, r.from, r.below))
one_kept p (suc n) a k r one = one_of p n a k (p a) refl r one (none_kept p n (a + 1)) (one_kept p n (a + 1) k)

-- what alone is kept passes, and nothing else does
pub alone_kept : (p : ℕ → Bool) (n a k : ℕ) → filter p (range_with_len a n) ≡ k ∷ [] → IsKept p a n k × ((j : ℕ) → IsKept p a n j → j ≡ k)
alone_kept p zero a k e = absurd (cc)
alone_kept p (suc n) a k e = alone_of p n a k (p a) refl e (kept_some p n (a + 1)) (alone_kept p n (a + 1) k)

-- an element that passes is one of the list, so each test that it passes keeps one
some_kept : {X : Type 0} (p : X → Bool) (Q : X → Type 0) (xs : List X) → AllByRecursion Q xs → 1 ≤ length (filter p xs)
    → (x : X) × Q x × (p x ≡ true) × ((q : X → Bool) → q x ≡ true → 1 ≤ length (filter q xs))
some_kept p Q [] h some = absurd (omega arith)
some_kept {X} p Q (x ∷ xs) h some = at (p x) refl some (λ more. some_kept p Q xs h.1 more)
  where
    first : (q : X → Bool) (b : Bool) → b ≡ true → 1 ≤ length (cond b (x ∷ filter q xs) (filter q xs))
    first q true e = omega arith
    first q false e = absurd (cc)

    more : (q : X → Bool) (b : Bool) → 1 ≤ length (filter q xs) → 1 ≤ length (cond b (x ∷ filter q xs) (filter q xs))
    more q true l = omega arith
    more q false l = l

    later : (y : X) × Q y × (p y ≡ true) × ((q : X → Bool) → q y ≡ true → 1 ≤ length (filter q xs)) → (y : X) × Q y × (p y ≡ true) × ((q : X → Bool) → q y ≡ true → 1 ≤ length (filter q (x ∷ xs)))
    later r = (r.0, r.1, r.2, λ q e. more q (q x) (r.3 q e))

    at : (b : Bool) → p x ≡ b → 1 ≤ length (cond b (x ∷ filter p xs) (filter p xs))
        → (1 ≤ length (filter p xs) → (y : X) × Q y × (p y ≡ true) × ((q : X → Bool) → q y ≡ true → 1 ≤ length (filter q xs)))
        → (y : X) × Q y × (p y ≡ true) × ((q : X → Bool) → q y ≡ true → 1 ≤ length (filter q (x ∷ xs)))
    at true e some rest = (x, h.0, e, λ q passes. first q (q x) passes)
    at false e some rest = later (rest some)

-- ---- what can come

some_list : {X : Type 0} (xs : List X) (b : Bool) → (length xs ≡ 0 → b ≡ true) → b ≡ false → 1 ≤ length xs
some_list [] b h e = absurd (let t = h refl in cc)
some_list (x ∷ xs) b h e = omega arith

module _ (network : List Variable) (H : List Entry) (test : List ℕ → Bool) where
  pub can_come_is : cannot_come network H test ≡ false → 1 ≤ length (possible_states network H test)
  can_come_is e = some_list (possible_states network H test) (cannot_come network H test) (λ none. eq-eqb (length (possible_states network H test)) 0 none) e

  pub is_can_come : 1 ≤ length (possible_states network H test) → cannot_come network H test ≡ false
  is_can_come some = ne_eqb (length (possible_states network H test)) 0 (λ none. absurd (omega arith))

  pub cannot_come_is : cannot_come network H test ≡ true → length (possible_states network H test) ≡ 0
  cannot_come_is e = eqb-true (length (possible_states network H test)) 0 e

  pub is_cannot_come : length (possible_states network H test) ≡ 0 → cannot_come network H test ≡ true
  is_cannot_come none = eq-eqb (length (possible_states network H test)) 0 none

module _ (network : List Variable) (H : List Entry) (spread : SpreadAsked) where
  -- ---- sides

  -- a value has no side exactly where it cannot come
  pub no_side_exactly : (u k : ℕ) (side : Option Side) → IsValueSide network H u spread k side → value_cannot_come network H spread k ≡ is_none side
  no_side_exactly u k None h = is_cannot_come network H (with_target (asked_of spread k)) (none_least (gain H u) (possible_states network H (with_target (asked_of spread k))) h)
  no_side_exactly u k (Some side) h = is_can_come network H (with_target (asked_of spread k)) (some (possible_states network H (with_target (asked_of spread k))) h)
    where
      some : (xs : List (List ℕ)) → IsSomeAnd (least_by (gain H u) xs) (λ g. side ≡ record { price = price_where network H spread.condition (with_target (asked_of spread k)); least = factor_with H u g }) → 1 ≤ length xs
      some [] h = absurd h
      some (x ∷ xs) h = omega arith

  pub no_side : (u k : ℕ) → value_cannot_come network H spread k ≡ true → IsValueSide network H u spread k None
  no_side u k e = least_none (gain H u) (possible_states network H (with_target (asked_of spread k))) (cannot_come_is network H (with_target (asked_of spread k)) e)

  -- ---- the condition, and its values

  -- where a value can come the condition can
  pub condition_comes : (k : ℕ) → value_cannot_come network H spread k ≡ false → 1 ≤ length (possible_states network H (holds spread.condition))
  condition_comes k e = passing_stay network H (with_target (asked_of spread k)) (holds spread.condition) (λ s e. (and_parts (holds spread.condition s) (has (asked_of spread k).target s) e).0)
      (can_come_is network H (with_target (asked_of spread k)) e)

  -- where another value can come, something else than a value can
  pub other_comes : (j k : ℕ) → (j ≡ k → ⊥) → value_cannot_come network H spread j ≡ false → 1 ≤ length (possible_states network H (without_target (asked_of spread k)))
  other_comes j k d e = passing_stay network H (with_target (asked_of spread j)) (without_target (asked_of spread k)) at (can_come_is network H (with_target (asked_of spread j)) e)
    where
      at : (s : List ℕ) → with_target (asked_of spread j) s ≡ true → without_target (asked_of spread k) s ≡ true
      at s e = let parts = and_parts (holds spread.condition s) (has (asked_of spread j).target s) e in
          and_from (holds spread.condition s) (not (has (asked_of spread k).target s)) (parts.0)
          (ap not (ne_eqb (value_at s spread.variable) k (λ same. d (sym (eqb-true (value_at s spread.variable) j (parts.1)) ∙ same))))

  -- where the condition can come some value can
  pub value_comes : spread.variable < length network → 1 ≤ length (possible_states network H (holds spread.condition))
      → (k : ℕ) × (k < slice_index (sizes network) spread.variable) × (value_cannot_come network H spread k ≡ false)
  value_comes within some = at (some_kept (λ s. is_possible H s && holds spread.condition s) (IsState (sizes network)) (all_states network) (all_are network) some)
    where
      at : (s : List ℕ) × IsState (sizes network) s × ((is_possible H s && holds spread.condition s) ≡ true) × ((q : List ℕ → Bool) → q s ≡ true → 1 ≤ length (filter q (all_states network)))
          → (k : ℕ) × (k < slice_index (sizes network) spread.variable) × (value_cannot_come network H spread k ≡ false)
      at r =
          let s = r.0 in
          let parts = and_parts (is_possible H s) (holds spread.condition s) (r.2) in (
            value_at s spread.variable,
            value_below network spread.variable s within (r.1),
            is_can_come network H (with_target (asked_of spread (value_at s spread.variable))) (r.3 (λ t. is_possible H t && with_target (asked_of spread (value_at s spread.variable)) t)
                (and_from (is_possible H s) (with_target (asked_of spread (value_at s spread.variable)) s) (parts.0)
                (and_from (holds spread.condition s) (has (asked_of spread (value_at s spread.variable)).target s) (parts.1) (eq-eqb (value_at s spread.variable) (value_at s spread.variable) refl)))),
          )

  -- what can come is a value of the variable
  pub value_of_kept : (k : ℕ) → spread.variable < length network → value_cannot_come network H spread k ≡ false → k < slice_index (sizes network) spread.variable
  value_of_kept k within e = at (some_kept (λ s. is_possible H s && with_target (asked_of spread k) s) (IsState (sizes network)) (all_states network) (all_are network)
      (can_come_is network H (with_target (asked_of spread k)) e))
    where
      at : (s : List ℕ) × IsState (sizes network) s × ((is_possible H s && with_target (asked_of spread k) s) ≡ true) × ((q : List ℕ → Bool) → q s ≡ true → 1 ≤ length (filter q (all_states network)))
          → k < slice_index (sizes network) spread.variable
      at r =
          let s = r.0 in
          let event = (and_parts (is_possible H s) (with_target (asked_of spread k) s) (r.2)).1 in
          let same = eqb-true (value_at s spread.variable) k (and_parts (holds spread.condition s) (has (asked_of spread k).target s) event).1 in
          subst (λ (v : ℕ). v < slice_index (sizes network) spread.variable) same (value_below network spread.variable s within (r.1))

  -- ---- the values that are left

  abbrev is_left : ℕ → Bool
  is_left k = not (value_cannot_come network H spread k)

  kept : (k : ℕ) → k < slice_index (sizes network) spread.variable → value_cannot_come network H spread k ≡ false → IsKept is_left 0 (slice_index (sizes network) spread.variable) k
  kept k within e = record { from = omega arith; below = omega arith; passes = ap not e }

  kept_comes : (k : ℕ) → IsKept is_left 0 (slice_index (sizes network) spread.variable) k → (k < slice_index (sizes network) spread.variable) × (value_cannot_come network H spread k ≡ false)
  kept_comes k r = (omega (arith, r.below), at (value_cannot_come network H spread k) r.passes)
    where
      at : (b : Bool) → not b ≡ true → b ≡ false
      at true e = absurd (cc)
      at false e = refl

  pub left_of_value : (k : ℕ) → k < slice_index (sizes network) spread.variable → value_cannot_come network H spread k ≡ false → 1 ≤ length (values_left network H spread)
  left_of_value k within e = kept_some is_left (slice_index (sizes network) spread.variable) 0 k (kept k within e)

  -- some value is left exactly where the condition can come
  pub some_left : spread.variable < length network → 1 ≤ length (possible_states network H (holds spread.condition)) → 1 ≤ length (values_left network H spread)
  some_left within some = at (value_comes within some)
    where
      at : (k : ℕ) × (k < slice_index (sizes network) spread.variable) × (value_cannot_come network H spread k ≡ false) → 1 ≤ length (values_left network H spread)
      at r = left_of_value (r.0) (r.1) (r.2)

  pub left_comes : 1 ≤ length (values_left network H spread) → 1 ≤ length (possible_states network H (holds spread.condition))
  left_comes some = at (first_kept is_left (slice_index (sizes network) spread.variable) 0 some)
    where
      at : (k : ℕ) × IsKept is_left 0 (slice_index (sizes network) spread.variable) k → 1 ≤ length (possible_states network H (holds spread.condition))
      at r = condition_comes (r.0) (kept_comes (r.0) (r.1)).1

  -- where two are left another is left than any one
  pub other_left : 2 ≤ length (values_left network H spread) → (k : ℕ) → (j : ℕ) × (value_cannot_come network H spread j ≡ false) × (j ≡ k → ⊥)
  other_left two k = at (other_kept is_left (slice_index (sizes network) spread.variable) 0 k two)
    where
      at : (j : ℕ) × IsKept is_left 0 (slice_index (sizes network) spread.variable) j × (j ≡ k → ⊥) → (j : ℕ) × (value_cannot_come network H spread j ≡ false) × (j ≡ k → ⊥)
      at r = (r.0, (kept_comes (r.0) (r.1)).1, r.2)

  -- one alone is left exactly where it can come and no other can
  pub one_left : (k : ℕ) → k < slice_index (sizes network) spread.variable → value_cannot_come network H spread k ≡ false
      → ((j : ℕ) → j < slice_index (sizes network) spread.variable → value_cannot_come network H spread j ≡ false → j ≡ k) → values_left network H spread ≡ k ∷ []
  one_left k within e one = one_kept is_left (slice_index (sizes network) spread.variable) 0 k (kept k within e) (λ j r. one j (kept_comes j r).0 (kept_comes j r).1)

  pub alone_left : (k : ℕ) → values_left network H spread ≡ k ∷ []
      → (k < slice_index (sizes network) spread.variable) × (value_cannot_come network H spread k ≡ false)
      × ((j : ℕ) → j < slice_index (sizes network) spread.variable → value_cannot_come network H spread j ≡ false → j ≡ k)
  alone_left k e =
      let both = alone_kept is_left (slice_index (sizes network) spread.variable) 0 k e in
      let comes = kept_comes k (both.0) in
      (comes.0, comes.1, λ j within can. both.1 j (kept j within can))
