-- The only place of a list that is filled, and the values of a variable that are left.
use Rattle.std.proofs.Common.{◌≡◌, ℕ, zero, suc, ◌+◌, ◌≤◌, Bool, true, false, cond, List, [], ◌∷◌, length, filter, Option, Some, None, refl, sym, ap, ◌∙◌, arith}
use Rattle.std.specs.Prelude.{option_map, is_some}
use Rattle.std.specs.List.{AllZip, list_any, range_with_len}
use Rattle.mk_answers.specs.inner.Alone.{alone_in}

-- ---- step by step

-- whether some place is filled
abbrev pub any_filled : {X : Type 0} → List (Option X) → Bool
any_filled xs = list_any (λ y. is_some y) xs

-- the only place that is filled, where one was found before the rest of the list or none was, and the rest begins at a place
abbrev pub alone_after : {X : Type 0} → Option ℕ → ℕ → List (Option X) → Option ℕ
alone_after None place xs = option_map (λ k. k + place) (alone_in xs)
alone_after (Some k) place xs = cond (any_filled xs) None (Some k)

pub from_first : {X : Type 0} (xs : List (Option X)) → alone_after None 0 xs ≡ alone_in xs
from_first xs = at (alone_in xs)
  where
    at : (o : Option ℕ) → option_map (λ k. k + 0) o ≡ o
    at None = refl
    at (Some k) = ap Some (omega arith)

pub at_end : (X : Type 0) (found : Option ℕ) (place : ℕ) → alone_after {X = X} found place [] ≡ found
at_end X None place = refl
at_end X (Some k) place = refl

pub past_empty : {X : Type 0} (found : Option ℕ) (place : ℕ) (xs : List (Option X)) → alone_after found place (None ∷ xs) ≡ alone_after found (place + 1) xs
past_empty None place xs = at (alone_in xs)
  where
    at : (o : Option ℕ) → option_map (λ k. k + place) (option_map (λ k. k + 1) o) ≡ option_map (λ k. k + (place + 1)) o
    at None = refl
    at (Some k) = ap Some (omega arith)
past_empty (Some k) place xs = refl

pub past_first : {X : Type 0} (x : X) (place : ℕ) (xs : List (Option X)) → alone_after None place (Some x ∷ xs) ≡ alone_after (Some place) (place + 1) xs
past_first x place xs = at (any_filled xs)
  where
    at : (b : Bool) → option_map (λ k. k + place) (cond b None (Some 0)) ≡ cond b None (Some place)
    at true = refl
    at false = ap Some (omega arith)

pub past_second : {X : Type 0} (k : ℕ) (x : X) (place : ℕ) (xs : List (Option X)) → alone_after (Some k) place (Some x ∷ xs) ≡ None
past_second k x place xs = refl

-- ---- numbers that are kept

filled_after : (b : Bool) (a : ℕ) (ks : List ℕ) → b ≡ true → cond b (a ∷ ks) ks ≡ a ∷ ks
filled_after true a ks e = refl
filled_after false a ks e = absurd (cc)

empty_after : (b : Bool) (a : ℕ) (ks : List ℕ) → b ≡ false → cond b (a ∷ ks) ks ≡ ks
empty_after true a ks e = absurd (cc)
empty_after false a ks e = refl

-- a test of numbers, and a place for each of them that is filled where it passes
module _ {X : Type 0} (passes : ℕ → Bool) where
  abbrev pub AreFilledWhere : ℕ → ℕ → List (Option X) → Type 0
  AreFilledWhere a n xs = AllZip (λ k x. is_some x ≡ passes k) (range_with_len a n) xs

  -- where no place is filled no number passes
  none_pass : (n a : ℕ) (xs : List (Option X)) → AreFilledWhere a n xs → any_filled xs ≡ false → filter passes (range_with_len a n) ≡ []
  none_pass zero a [] h e = refl
  none_pass zero a (x ∷ xs) h e = absurd h
  none_pass (suc n) a [] h e = absurd h
  none_pass (suc n) a (None ∷ xs) h e = empty_after (passes a) a (filter passes (range_with_len (a + 1) n)) (sym h.0) ∙ none_pass n (a + 1) xs h.1 e
  none_pass (suc n) a (Some x ∷ xs) h e = absurd (cc)

  -- where one is, some does
  some_pass : (n a : ℕ) (xs : List (Option X)) → AreFilledWhere a n xs → any_filled xs ≡ true → 1 ≤ length (filter passes (range_with_len a n))
  some_pass zero a [] h e = absurd (cc)
  some_pass zero a (x ∷ xs) h e = absurd h
  some_pass (suc n) a [] h e = absurd h
  some_pass (suc n) a (None ∷ xs) h e =
      let same = ap (λ (ks : List ℕ). length ks) (empty_after (passes a) a (filter passes (range_with_len (a + 1) n)) (sym h.0)) in
      let later = some_pass n (a + 1) xs h.1 e in
      omega (arith, same, later)
  some_pass (suc n) a (Some x ∷ xs) h e =
      let same = ap (λ (ks : List ℕ). length ks) (filled_after (passes a) a (filter passes (range_with_len (a + 1) n)) (sym h.0)) in
      omega (arith, same)

  -- the only place that is filled is that of the only number that passes
  pub alone_passes : (n a : ℕ) (xs : List (Option X)) → AreFilledWhere a n xs → (k : ℕ) → alone_in xs ≡ Some k → filter passes (range_with_len a n) ≡ (a + k) ∷ []
  alone_passes zero a [] h k e = absurd (cc)
  alone_passes zero a (x ∷ xs) h k e = absurd h
  alone_passes (suc n) a [] h k e = absurd h
  alone_passes (suc n) a (None ∷ xs) h k e =
      empty_after (passes a) a (filter passes (range_with_len (a + 1) n)) (sym h.0) ∙ at (alone_in xs) e (λ j same. alone_passes n (a + 1) xs h.1 j same)
    where
      at : (o : Option ℕ) → option_map (λ j. j + 1) o ≡ Some k → ((j : ℕ) → o ≡ Some j → filter passes (range_with_len (a + 1) n) ≡ (a + 1 + j) ∷ [])
          → filter passes (range_with_len (a + 1) n) ≡ (a + k) ∷ []
      at None e later = absurd (cc)
      at (Some j) e later =
          let next : j + 1 ≡ k = cc in
          let same : a + 1 + j ≡ a + k = omega arith in
          later j refl ∙ ap (λ i. i ∷ []) same
  alone_passes (suc n) a (Some x ∷ xs) h k e =
      filled_after (passes a) a (filter passes (range_with_len (a + 1) n)) (sym h.0) ∙ at (any_filled xs) e (λ none. none_pass n (a + 1) xs h.1 none)
    where
      at : (b : Bool) → cond b None (Some 0) ≡ Some k → (b ≡ false → filter passes (range_with_len (a + 1) n) ≡ []) → a ∷ filter passes (range_with_len (a + 1) n) ≡ (a + k) ∷ []
      at true e later = absurd (cc)
      at false e later =
          let first : 0 ≡ k = cc in
          let same : a ≡ a + k = omega arith in
          ap (λ ks. a ∷ ks) (later refl) ∙ ap (λ i. i ∷ []) same

  two_filled : (n a : ℕ) (xs : List (Option X)) → AreFilledWhere a n xs → alone_in xs ≡ None → any_filled xs ≡ true → 2 ≤ length (filter passes (range_with_len a n))
  two_filled zero a [] h e some = absurd (cc)
  two_filled zero a (x ∷ xs) h e some = absurd h
  two_filled (suc n) a [] h e some = absurd h
  two_filled (suc n) a (None ∷ xs) h e some =
      let same = ap (λ (ks : List ℕ). length ks) (empty_after (passes a) a (filter passes (range_with_len (a + 1) n)) (sym h.0)) in
      let later = two_filled n (a + 1) xs h.1 (at (alone_in xs) e) some in
      omega (arith, same, later)
    where
      at : (o : Option ℕ) → option_map (λ (j : ℕ). j + 1) o ≡ None → o ≡ None
      at None e = refl
      at (Some j) e = absurd (cc)
  two_filled (suc n) a (Some x ∷ xs) h e some =
      let same = ap (λ (ks : List ℕ). length ks) (filled_after (passes a) a (filter passes (range_with_len (a + 1) n)) (sym h.0)) in
      let later = some_pass n (a + 1) xs h.1 (at (any_filled xs) e) in
      omega (arith, same, later)
    where
      at : (b : Bool) → cond {A = Option ℕ} b None (Some 0) ≡ None → b ≡ true
      at true e = refl
      at false e = absurd (cc)

  -- where some number passes, and no place alone is filled, two do
  pub two_pass : (n a : ℕ) (xs : List (Option X)) → AreFilledWhere a n xs → alone_in xs ≡ None → 1 ≤ length (filter passes (range_with_len a n)) → 2 ≤ length (filter passes (range_with_len a n))
  two_pass n a xs h e some = at (any_filled xs) (none_pass n a xs h) (two_filled n a xs h e)
    where
      at : (b : Bool) → (b ≡ false → filter passes (range_with_len a n) ≡ []) → (b ≡ true → 2 ≤ length (filter passes (range_with_len a n))) → 2 ≤ length (filter passes (range_with_len a n))
      at true none two = two refl
      at false none two = let same = ap (λ (ks : List ℕ). length ks) (none refl) in absurd (omega (arith, same, some))
