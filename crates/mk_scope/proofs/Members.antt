-- The variables of a set in rising order, and their sizes by their place in the list.
use Rattle.std.proofs.Common.{◌≡◌, ℕ, suc, zero, ◌+◌, ◌-◌, ◌<◌, ◌≤◌, Bool, true, false, cond, not, ◌&&◌, ◌||◌, ◌⊎◌, inl, inr, List, [], ◌∷◌, ◌++◌, map, length, get_or, slice_index, slice_index_or, All, refl, sym, ap, subst, ◌∙◌, arith, eq-eqb, ne_eqb, ◌==◌}
use Rattle.std.specs.List.{range_with_len, position_or_len}
use Rattle.std.proofs.lemmas.Bool.{cases_eq, cases_lt, both_ways, and_right, cases_Bool, eqb-true}
use Rattle.std.proofs.lemmas.List.{get_or_default, get_or_past}
use Rattle.std.proofs.lemmas.List.Sums.{position_or_len_is}
use Rattle.std.proofs.Math.ListN.{get_or-eq_default}
use Rattle.std.proofs.lemmas.List.Elements.{All-nil, All-cons, All-head, All-tail, All-weaker}
use Rattle.mk_sums.specs.Sums.{listed}
use Rattle.mk_sums.specs.Cells.{keep, Apart}
use Rattle.mk_scope.specs.Scopes.{ScopeOf, IsScope, Rising, size_in}

pub range_more : (a n : ℕ) → range_with_len a (suc n) ≡ range_with_len a n ++ (a + n) ∷ []
range_more a zero = let e : a ≡ a + 0 = omega arith in ap (λ x. x ∷ []) e
range_more a (suc n) =
    let e : a + 1 + n ≡ a + suc n = omega arith in
    ap (λ xs. a ∷ xs) (range_more (a + 1) n ∙ ap (λ x. range_with_len (a + 1) n ++ x ∷ []) e)

-- tests that agree from a number on keep the same
same_kept : (p q : ℕ → Bool) (a n : ℕ) → ((y : ℕ) → a ≤ y → p y ≡ q y) → keep p (range_with_len a n) ≡ keep q (range_with_len a n)
same_kept p q a zero same = refl
same_kept p q a (suc n) same =
    ap (λ b. cond b (a ∷ keep p (range_with_len (a + 1) n)) (keep p (range_with_len (a + 1) n))) (same a (omega arith))
    ∙ ap (λ (xs : List ℕ). cond (q a) (a ∷ xs) xs) (same_kept p q (a + 1) n (λ y past. same y (omega (arith, past))))

pub none_kept : (p : ℕ → Bool) (a n : ℕ) → ((y : ℕ) → p y ≡ false) → keep p (range_with_len a n) ≡ []
none_kept p a zero none = refl
none_kept p a (suc n) none = ap (λ b. cond b (a ∷ keep p (range_with_len (a + 1) n)) (keep p (range_with_len (a + 1) n))) (none a) ∙ none_kept p (a + 1) n none

-- a set's first variable, and the set without it
pub record IsFirstOf (left : ℕ → Bool) (x : ℕ) (rest : ℕ → Bool) : Type 0 where
  pub member : left x ≡ true
  pub least : (y : ℕ) → y < x → left y ≡ false
  pub gone : rest x ≡ false
  pub others : (y : ℕ) → (y ≡ x → ⊥) → rest y ≡ left y

pub first_taken : (none one left rest : ℕ → Bool) (x : ℕ) → left x ≡ true → ((y : ℕ) → y < x → left y ≡ false) → ((y : ℕ) → none y ≡ false)
    → ((y : ℕ) → one y ≡ (y == x) || none y) → ((y : ℕ) → rest y ≡ left y && not (one y)) → IsFirstOf left x rest
first_taken none one left rest x member least empty is_one without = record {
  member = member;
  least = least;
  gone = without x ∙ and_right (left x) (not (one x)) (ap not (is_one x ∙ ap (λ b. b || none x) (eq-eqb x x refl)));
  others = λ y d. without y ∙ ap (λ b. left y && not b) (is_one y ∙ ap (λ b. b || none y) (ne_eqb y x d) ∙ empty y) ∙ and_true (left y);
}
  where
    and_true : (b : Bool) → (b && true) ≡ b
    and_true true = refl
    and_true false = refl

-- what is left behind the first was there
pub first_within : (left rest : ℕ → Bool) (x : ℕ) → IsFirstOf left x rest → (y : ℕ) → rest y ≡ true → left y ≡ true
first_within left rest x first y member = at (cases_eq y x)
  where
    at : ((y ≡ x) ⊎ (y ≡ x → ⊥)) → left y ≡ true
    at (inl e) = absurd (both_ways (rest x) first.gone (ap rest (sym e) ∙ member))
    at (inr d) = sym (first.others y d) ∙ member

pub first_kept : (left rest : ℕ → Bool) (a n x : ℕ) → a ≤ x → x < a + n → IsFirstOf left x rest → keep left (range_with_len a n) ≡ x ∷ keep rest (range_with_len a n)
first_kept left rest a zero x low high first = absurd (omega (arith, low, high))
first_kept left rest a (suc n) x low high first = at (cases_eq x a) (λ later. first_kept left rest (a + 1) n x later (omega (arith, high)) first)
  where
    with_next : Bool → List ℕ → List ℕ
    with_next b xs = cond b (a ∷ xs) xs

    at : ((x ≡ a) ⊎ (x ≡ a → ⊥)) → (a + 1 ≤ x → keep left (range_with_len (a + 1) n) ≡ x ∷ keep rest (range_with_len (a + 1) n))
        → with_next (left a) (keep left (range_with_len (a + 1) n)) ≡ x ∷ with_next (rest a) (keep rest (range_with_len (a + 1) n))
    at (inl here) ih =
        ap (λ b. with_next b (keep left (range_with_len (a + 1) n))) (ap left (sym here) ∙ first.member)
        ∙ ap (λ (k : ℕ). k ∷ keep left (range_with_len (a + 1) n)) (sym here)
        ∙ ap (λ (xs : List ℕ). x ∷ xs) (same_kept left rest (a + 1) n (λ y past. sym (first.others y (λ e. omega (arith, e, past, here)))))
        ∙ ap (λ b. x ∷ with_next b (keep rest (range_with_len (a + 1) n))) (sym (ap rest (sym here) ∙ first.gone))
    at (inr other) ih =
        let below : left a ≡ false = first.least a (omega (arith, low, other)) in
        ap (λ b. with_next b (keep left (range_with_len (a + 1) n))) below
        ∙ ih (omega (arith, low, other))
        ∙ ap (λ b. x ∷ with_next b (keep rest (range_with_len (a + 1) n))) (sym (first.others a (λ e. other (sym e)) ∙ below))

-- all of them from a on, and below the end
keep_above : (set : ℕ → Bool) (a n : ℕ) → All (λ y. a ≤ y) (keep set (range_with_len a n))
keep_above set a zero = All-nil (λ y. a ≤ y)
keep_above set a (suc n) = at (set a) (All-weaker (λ y. a + 1 ≤ y) (λ y. a ≤ y) (λ y p. omega arith) (keep set (range_with_len (a + 1) n)) (keep_above set (a + 1) n))
  where
    at : (b : Bool) → All (λ y. a ≤ y) (keep set (range_with_len (a + 1) n)) → All (λ y. a ≤ y) (cond b (a ∷ keep set (range_with_len (a + 1) n)) (keep set (range_with_len (a + 1) n)))
    at true h = All-cons (λ y. a ≤ y) a (keep set (range_with_len (a + 1) n)) (omega arith) h
    at false h = h

pub keep_below : (set : ℕ → Bool) (a n : ℕ) → All (λ y. y < a + n) (keep set (range_with_len a n))
keep_below set a zero = All-nil (λ y. y < a + 0)
keep_below set a (suc n) = at (set a) (All-weaker (λ y. y < a + 1 + n) (λ y. y < a + suc n) (λ y p. omega arith) (keep set (range_with_len (a + 1) n)) (keep_below set (a + 1) n))
  where
    at : (b : Bool) → All (λ y. y < a + suc n) (keep set (range_with_len (a + 1) n)) → All (λ y. y < a + suc n) (cond b (a ∷ keep set (range_with_len (a + 1) n)) (keep set (range_with_len (a + 1) n)))
    at true h = All-cons (λ y. y < a + suc n) a (keep set (range_with_len (a + 1) n)) (omega arith) h
    at false h = h

pub keep_rising : (set : ℕ → Bool) (a n : ℕ) → Rising (keep set (range_with_len a n))
keep_rising set a zero = tt
keep_rising set a (suc n) = at (set a) (keep_rising set (a + 1) n)
  where
    at : (b : Bool) → Rising (keep set (range_with_len (a + 1) n)) → Rising (cond b (a ∷ keep set (range_with_len (a + 1) n)) (keep set (range_with_len (a + 1) n)))
    at true h = (All-weaker (λ y. a + 1 ≤ y) (λ y. a < y) (λ y p. omega arith) (keep set (range_with_len (a + 1) n)) (keep_above set (a + 1) n), h)
    at false h = h

pub keep_few : (set : ℕ → Bool) (a n : ℕ) → length (keep set (range_with_len a n)) ≤ n
keep_few set a zero = omega arith
keep_few set a (suc n) = at (set a) (keep_few set (a + 1) n)
  where
    at : (b : Bool) → length (keep set (range_with_len (a + 1) n)) ≤ n → length (cond b (a ∷ keep set (range_with_len (a + 1) n)) (keep set (range_with_len (a + 1) n))) ≤ suc n
    at true h = omega arith
    at false h = omega arith

-- a variable below all others is not listed
not_listed : (x : ℕ) (xs : List ℕ) → All (λ y. x < y) xs → listed xs x ≡ false
not_listed x [] h = refl
not_listed x (y ∷ xs) h =
    let l : x < y = All-head (λ y. x < y) y xs h in
    ap (λ b. b || listed xs x) (ne_eqb x y (λ e. omega arith)) ∙ not_listed x xs (All-tail (λ y. x < y) y xs h)

pub rising_apart : (xs : List ℕ) → Rising xs → Apart xs
rising_apart [] h = tt
rising_apart (x ∷ xs) h = (not_listed x xs h.0, rising_apart xs h.1)

pub rising_at : (xs : List ℕ) → Rising xs → (k i : ℕ) → k < i → i < length xs → get_or xs k 0 < get_or xs i 0
rising_at [] h k i p q = absurd (omega arith)
rising_at (x ∷ xs) h k zero p q = absurd (omega arith)
rising_at (x ∷ xs) h zero (suc i) p q = h.0 i 0 (omega arith)
rising_at (x ∷ xs) h (suc k) (suc i) p q = rising_at xs h.1 k i (omega arith) (omega arith)

-- each variable lies between the first and the last
pub rising_within : (xs : List ℕ) → Rising xs → (i : ℕ) → i < length xs → (get_or xs 0 0 ≤ get_or xs i 0) × (get_or xs i 0 ≤ get_or xs (length xs - 1) 0)
rising_within xs h i p = (low (cases_eq i 0), high (cases_eq i (length xs - 1)))
  where
    low : ((i ≡ 0) ⊎ (i ≡ 0 → ⊥)) → get_or xs 0 0 ≤ get_or xs i 0
    low (inl e) = let s = ap (λ k. get_or xs k 0) e in omega (arith, s)
    low (inr d) = let l = rising_at xs h 0 i (omega (arith, d)) p in omega (arith, l)

    high : ((i ≡ length xs - 1) ⊎ (i ≡ length xs - 1 → ⊥)) → get_or xs i 0 ≤ get_or xs (length xs - 1) 0
    high (inl e) = let s = ap (λ k. get_or xs k 0) e in omega (arith, s)
    high (inr d) = let l = rising_at xs h i (length xs - 1) (omega (arith, d, p)) (omega (arith, p)) in omega (arith, l)

-- the size at a variable's place
place_first : (x y : ℕ) (xs : List ℕ) → y ≡ x → position_or_len (λ z. z == x) (y ∷ xs) ≡ 0
place_first x y xs e = ap (λ b. cond (not b) (1 + position_or_len (λ z. z == x) xs) 0) (eq-eqb y x e)

place_later : (x y : ℕ) (xs : List ℕ) → (y ≡ x → ⊥) → position_or_len (λ z. z == x) (y ∷ xs) ≡ suc (position_or_len (λ z. z == x) xs)
place_later x y xs d =
    let e : 1 + position_or_len (λ z. z == x) xs ≡ suc (position_or_len (λ z. z == x) xs) = omega arith in
    ap (λ b. cond (not b) (1 + position_or_len (λ z. z == x) xs) 0) (ne_eqb y x d) ∙ e

pub position_at : (xs : List ℕ) → Rising xs → (i : ℕ) → i < length xs → position_or_len (λ y. y == get_or xs i 0) xs ≡ i
position_at [] h i p = absurd (omega arith)
position_at (x ∷ xs) h zero p = place_first x x xs refl
position_at (x ∷ xs) h (suc i) p =
    let l : x < get_or xs i 0 = h.0 i 0 (omega arith) in
    place_later (get_or xs i 0) x xs (λ e. omega arith) ∙ ap suc (position_at xs h.1 i (omega arith))

pub size_of_map : (f : ℕ → ℕ) (xs : List ℕ) (x : ℕ) → listed xs x ≡ true → slice_index_or (map f xs) (position_or_len (λ y. y == x) xs) 1 ≡ f x
size_of_map f [] x h = absurd (both_ways false refl h)
size_of_map f (y ∷ xs) x h = at (cases_eq y x) (size_of_map f xs x)
  where
    later : (y ≡ x → ⊥) → listed xs x ≡ true
    later d = subst (λ b. (b || listed xs x) ≡ true) (ne_eqb x y (λ e. d (sym e))) h

    at : ((y ≡ x) ⊎ (y ≡ x → ⊥)) → (listed xs x ≡ true → slice_index_or (map f xs) (position_or_len (λ z. z == x) xs) 1 ≡ f x)
        → slice_index_or (f y ∷ map f xs) (position_or_len (λ z. z == x) (y ∷ xs)) 1 ≡ f x
    at (inl e) ih = ap (λ n. slice_index_or (f y ∷ map f xs) n 1) (place_first x y xs e) ∙ ap f e
    at (inr d) ih = ap (λ n. slice_index_or (f y ∷ map f xs) n 1) (place_later x y xs d) ∙ ih (later d)

-- of a scope
pub size_at : (scope : ScopeOf) → IsScope scope → (i : ℕ) → i < length scope.variables → size_in scope (get_or scope.variables i 0) ≡ slice_index scope.sizes i
size_at scope h i p =
    ap (λ n. slice_index_or scope.sizes n 1) (position_at scope.variables h.rising i p)
    ∙ get_or_default scope.sizes i 1 0 (omega (arith, h.one_size_each))

pub size_pos : (scope : ScopeOf) → IsScope scope → (x : ℕ) → 1 ≤ size_in scope x
size_pos scope h x = at (position_or_len (λ y. y == x) scope.variables)
  where
    at : (n : ℕ) → 1 ≤ slice_index_or scope.sizes n 1
    at n = from (cases_lt n (length scope.sizes))
      where
        from : ((n < length scope.sizes) ⊎ (length scope.sizes ≤ n)) → 1 ≤ slice_index_or scope.sizes n 1
        from (inl l) = h.positive n 1 l
        from (inr l) = let e = get_or_past scope.sizes n 1 l in omega (arith, e)

-- a variable that is none of the scope's
pub no_size : (scope : ScopeOf) → IsScope scope → (x : ℕ) → ((k : ℕ) → k < length scope.variables → slice_index scope.variables k ≡ x → ⊥) → 1 ≡ size_in scope x
no_size scope h x none = sym (ap (λ n. slice_index_or scope.sizes n 1) at ∙ get_or-eq_default scope.sizes 1 (omega (arith, h.one_size_each)))
  where
    other : (a : ℕ) → (a ≡ x → ⊥) → (a == x) ≡ false
    other a n = from (cases_Bool (a == x))
      where
        from : (((a == x) ≡ true) ⊎ ((a == x) ≡ false)) → (a == x) ≡ false
        from (inl t) = absurd (n (eqb-true a x t))
        from (inr f) = f

    at : position_or_len (λ y. y == x) scope.variables ≡ length scope.variables
    at = position_or_len_is (λ y. y == x) scope.variables (length scope.variables) 0 (omega arith) (λ k l. other (slice_index scope.variables k) (none k l)) (λ l. absurd (omega (arith, l)))
