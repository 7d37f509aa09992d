-- Shares that suit their values: none for a value that cannot come, and some for each other.
use Rattle.std.proofs.Common.{◌≡◌, ℕ, zero, suc, ◌+◌, ◌<◌, ◌≤◌, ◌⊎◌, Bool, true, false, cond, not, ◌&&◌, ◌||◌, ◌==◌, nat_le, List, [], ◌∷◌, length, slice_index, slice_index_or, find, Option, Some, None, is_none, refl, sym, ap, ◌∙◌, subst, inl, inr, arith, le-leb}
use Rattle.std.specs.List.{AllZip, AllByRecursion, list_any, enumerate_from, range_with_len}
use Rattle.std.proofs.lemmas.Bool.{cases_lt}
use Rattle.mk_net.specs.Network.{Variable, sizes}
use Rattle.mk_exact.specs.History.{Entry}
use Rattle.mk_exact.specs.Limits.{Side}
use Rattle.mk_spread.specs.Spreads.{SpreadAsked}
use Rattle.mk_spread.specs.Markets.{IsValueSide, AreValueSides, value_cannot_come, IsShareWhere, SuitValues}
use Rattle.mk_spread.proofs.Left.{no_side_exactly, value_of_kept}

-- a share that a test of its value suits: none where the test holds, and else some
abbrev pub SuitsTest : Bool → ℕ → Type 0
SuitsTest true X = X ≡ 0
SuitsTest false X = 1 ≤ X

-- a share at a value where the test holds
abbrev pub is_impossible : (ℕ → Bool) → ℕ × ℕ → Bool
is_impossible test numbered = nat_le 1 (numbered.1) && test (numbered.0)

-- no share at a value where it does not
abbrev pub is_missed : (ℕ → Bool) → ℕ × ℕ → Bool
is_missed test numbered = (numbered.1 == 0) && not (test (numbered.0))

-- where there is neither, each share is suited
module _ (test : ℕ → Bool) where
  first_suits : (a X : ℕ) → is_impossible test (a, X) ≡ false → is_missed test (a, X) ≡ false → SuitsTest (test a) X
  first_suits a X possible there = at (test a) X possible there
    where
      at : (b : Bool) (X : ℕ) → (nat_le 1 X && b) ≡ false → ((X == 0) && not b) ≡ false → SuitsTest b X
      at true zero p t = refl
      at true (suc X) p t =
          let some : nat_le 1 (suc X) ≡ true = le-leb 1 (suc X) (omega arith) in
          let both : true ≡ false = subst (λ (b : Bool). (b && true) ≡ false) some p in
          absurd (cc)
      at false zero p t = absurd (cc)
      at false (suc X) p t = omega arith

  pub tests_suit : (Xs : List ℕ) (a : ℕ) → find (is_impossible test) (enumerate_from a Xs) ≡ None → list_any (is_missed test) (enumerate_from a Xs) ≡ false
      → (k : ℕ) → k < length Xs → SuitsTest (test (a + k)) (slice_index Xs k)
  tests_suit [] a none there k p = absurd (omega arith)
  tests_suit (X ∷ Xs) a none there zero p = subst (λ n. SuitsTest (test n) X) here (first_suits a X (not_first (is_impossible test (a, X)) none) (not_any (is_missed test (a, X)) there))
    where
      here : a ≡ a + 0
      here = omega arith

      not_first : (b : Bool) → cond b (Some (a, X)) (find (is_impossible test) (enumerate_from (a + 1) Xs)) ≡ None → b ≡ false
      not_first true e = absurd (cc)
      not_first false e = refl

      not_any : (b : Bool) → (b || list_any (is_missed test) (enumerate_from (a + 1) Xs)) ≡ false → b ≡ false
      not_any true e = absurd (cc)
      not_any false e = refl
  tests_suit (X ∷ Xs) a none there (suc k) p = subst (λ n. SuitsTest (test n) (slice_index Xs k)) further (tests_suit Xs (a + 1) (not_later (is_impossible test (a, X)) none) (not_any (is_missed test (a, X)) there) k (omega arith))
    where
      further : a + 1 + k ≡ a + suc k
      further = omega arith

      not_later : (b : Bool) → cond b (Some (a, X)) (find (is_impossible test) (enumerate_from (a + 1) Xs)) ≡ None → find (is_impossible test) (enumerate_from (a + 1) Xs) ≡ None
      not_later true e = absurd (cc)
      not_later false e = e

      not_any : (b : Bool) → (b || list_any (is_missed test) (enumerate_from (a + 1) Xs)) ≡ false → list_any (is_missed test) (enumerate_from (a + 1) Xs) ≡ false
      not_any true e = absurd (cc)
      not_any false e = e

each_suits : (test : ℕ → Bool) (n a : ℕ) (Xs : List ℕ) → length Xs ≡ n → AllByRecursion (λ X. X ≤ 999999) Xs → ((k : ℕ) → k < length Xs → SuitsTest (test (a + k)) (slice_index Xs k))
    → AllZip (λ value X. IsShareWhere (test value) X) (range_with_len a n) Xs
each_suits test zero a [] long most suits = tt
each_suits test zero a (X ∷ Xs) long most suits = absurd (omega arith)
each_suits test (suc n) a [] long most suits = absurd (omega arith)
each_suits test (suc n) a (X ∷ Xs) long most suits = (
  share (test a) (subst (λ i. SuitsTest (test i) X) here (suits 0 (omega arith))),
  each_suits test n (a + 1) Xs (omega arith) most.1 (λ k p. subst (λ i. SuitsTest (test i) (slice_index Xs k)) (further k) (suits (suc k) (omega arith))),
)
  where
    here : a + 0 ≡ a
    here = omega arith

    further : (k : ℕ) → a + suc k ≡ a + 1 + k
    further k = omega arith

    share : (b : Bool) → SuitsTest b X → IsShareWhere b X
    share true s = s
    share false s = (s, most.0)

module _ (network : List Variable) (H : List Entry) (spread : SpreadAsked) where
  -- shares at no value that cannot come, and at each that can, suit the values
  pub shares_suit_values : (Xs : List ℕ) → length Xs ≡ slice_index (sizes network) spread.variable → AllByRecursion (λ X. X ≤ 999999) Xs
      → find (is_impossible (value_cannot_come network H spread)) (enumerate_from 0 Xs) ≡ None → list_any (is_missed (value_cannot_come network H spread)) (enumerate_from 0 Xs) ≡ false
      → SuitValues network H spread Xs
  shares_suit_values Xs long most none there = each_suits (value_cannot_come network H spread) (slice_index (sizes network) spread.variable) 0 Xs long most
      (tests_suit (value_cannot_come network H spread) Xs 0 none there)

  -- the places of values without a side are those that cannot come, also beyond the last
  sides_from : (u n a : ℕ) (sides : List (Option Side)) → AllZip (IsValueSide network H u spread) (range_with_len a n) sides → (k : ℕ) → k < n
      → value_cannot_come network H spread (a + k) ≡ is_none (slice_index_or sides k None)
  sides_from u zero a sides of k p = absurd (omega arith)
  sides_from u (suc n) a [] of k p = absurd of
  sides_from u (suc n) a (side ∷ sides) of zero p = ap (value_cannot_come network H spread) here ∙ no_side_exactly network H spread u a side of.0
    where
      here : a + 0 ≡ a
      here = omega arith
  sides_from u (suc n) a (side ∷ sides) of (suc k) p = ap (value_cannot_come network H spread) further ∙ sides_from u n (a + 1) sides of.1 k (omega arith)
    where
      further : a + suc k ≡ a + 1 + k
      further = omega arith

  nothing_beyond : (n a : ℕ) (P : ℕ → Option Side → Type 0) (sides : List (Option Side)) → AllZip P (range_with_len a n) sides → (k : ℕ) → n ≤ k → true ≡ is_none (slice_index_or sides k None)
  nothing_beyond zero a P [] of k p = refl
  nothing_beyond zero a P (side ∷ sides) of k p = absurd of
  nothing_beyond (suc n) a P [] of k p = absurd of
  nothing_beyond (suc n) a P (side ∷ sides) of zero p = absurd (omega arith)
  nothing_beyond (suc n) a P (side ∷ sides) of (suc k) p = nothing_beyond n (a + 1) P sides of.1 k (omega arith)

  pub no_side_where : (u : ℕ) (sides : List (Option Side)) → spread.variable < length network → AreValueSides network H u spread sides
      → (k : ℕ) → value_cannot_come network H spread k ≡ is_none (slice_index_or sides k None)
  no_side_where u sides within of k = at (cases_lt k (slice_index (sizes network) spread.variable))
    where
      from : 0 + k ≡ k
      from = omega arith

      at : (k < slice_index (sizes network) spread.variable) ⊎ (slice_index (sizes network) spread.variable ≤ k) → value_cannot_come network H spread k ≡ is_none (slice_index_or sides k None)
      at (inl p) = ap (value_cannot_come network H spread) (sym from) ∙ sides_from u (slice_index (sizes network) spread.variable) 0 sides of k p
      at (inr p) = beyond (value_cannot_come network H spread k) refl ∙ nothing_beyond (slice_index (sizes network) spread.variable) 0 (IsValueSide network H u spread) sides of k p
        where
          beyond : (b : Bool) → value_cannot_come network H spread k ≡ b → value_cannot_come network H spread k ≡ true
          beyond true e = e
          beyond false e = absurd (let below = value_of_kept network H spread k within e in omega arith)
