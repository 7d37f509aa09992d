-- Shares at the wrong places, and shares that suit the sides.
use Rattle.std.proofs.Common.{◌≡◌, ℕ, zero, suc, ◌+◌, ◌<◌, Bool, false, List, [], ◌∷◌, drop, length, slice_index, slice_index_or, find, Option, Some, None, is_none, option_map, refl, ap, subst, arith}
use Rattle.std.specs.List.{AllZip, list_any, enumerate_from}
use Rattle.std.proofs.Math.Path.{fun_ext}
use Rattle.mk_exact.specs.Limits.{Side}
use Rattle.mk_spread.proofs.Suits.{SuitsTest, is_impossible, is_missed, tests_suit}
use Rattle.mk_quote.specs.declared.side.SideBounds.{SideBounds}
use Rattle.mk_quote.specs.Values.{IsEnclosed, EncloseEach, has_no_side, impossible_share_in, misses_share_in, SuitsSide}

-- ---- shares at the wrong places, place by place

-- the first from place i on is the first of all
abbrev pub IsFirstFrom : List (Option SideBounds) → List ℕ → ℕ → Type 0
IsFirstFrom values Xs i = find (is_impossible (has_no_side values)) (enumerate_from 0 Xs) ≡ find (is_impossible (has_no_side values)) (enumerate_from i (drop i Xs))

-- there is some from place i on where there is some
abbrev pub IsMissedFrom : List (Option SideBounds) → List ℕ → ℕ → Type 0
IsMissedFrom values Xs i = misses_share_in values Xs ≡ list_any (is_missed (has_no_side values)) (enumerate_from i (drop i Xs))

-- ---- shares that suit the sides

no_number : (o : Option (ℕ × ℕ)) → option_map (λ (numbered : ℕ × ℕ). numbered.0) o ≡ None → o ≡ None
no_number None e = refl
no_number (Some n) e = absurd (cc)

suits_sides : (values : List (Option SideBounds)) (Xs : List ℕ) → length Xs ≡ length values → ((k : ℕ) → k < length Xs → SuitsTest (is_none (slice_index_or values k None)) (slice_index Xs k))
    → AllZip SuitsSide values Xs
suits_sides [] [] long suits = tt
suits_sides [] (X ∷ Xs) long suits = absurd (omega arith)
suits_sides (value ∷ values) [] long suits = absurd (omega arith)
suits_sides (value ∷ values) (X ∷ Xs) long suits = (first value (suits 0 (omega arith)), suits_sides values Xs (omega arith) (λ k p. suits (suc k) (omega arith)))
  where
    first : (value : Option SideBounds) → SuitsTest (is_none value) X → SuitsSide value X
    first None s = s
    first (Some side) s = s

pub shares_suit : (values : List (Option SideBounds)) (Xs : List ℕ) → length Xs ≡ length values → impossible_share_in values Xs ≡ None
    → misses_share_in values Xs ≡ false → AllZip SuitsSide values Xs
shares_suit values Xs long none there = suits_sides values Xs long (λ k p. subst (λ n. SuitsTest (has_no_side values n) (slice_index Xs k)) (from k)
    (tests_suit (has_no_side values) Xs 0 (no_number (find (is_impossible (has_no_side values)) (enumerate_from 0 Xs)) none) there k p))
  where
    from : (k : ℕ) → 0 + k ≡ k
    from k = omega arith

-- ---- the tests of the exact sides

-- bounds stand exactly where sides do
pub no_side_as : (values : List (Option SideBounds)) (sides : List (Option Side)) → EncloseEach values sides → (k : ℕ) → has_no_side values k ≡ is_none (slice_index_or sides k None)
no_side_as [] [] of k = refl
no_side_as [] (side ∷ sides) of k = absurd of
no_side_as (value ∷ values) [] of k = absurd of
no_side_as (value ∷ values) (side ∷ sides) of zero = at value side of.0
  where
    at : (value : Option SideBounds) (side : Option Side) → IsEnclosed value side → is_none value ≡ is_none side
    at None None h = refl
    at None (Some s) h = absurd h
    at (Some v) None h = absurd h
    at (Some v) (Some s) h = refl
no_side_as (value ∷ values) (side ∷ sides) of (suc k) = no_side_as values sides of.1 k

-- so both readers answer by any test that says where there is no side
pub impossible_share_by : (values : List (Option SideBounds)) (Xs : List ℕ) (test : ℕ → Bool) → ((k : ℕ) → has_no_side values k ≡ test k)
    → impossible_share_in values Xs ≡ option_map (λ (numbered : ℕ × ℕ). numbered.0) (find (is_impossible test) (enumerate_from 0 Xs))
impossible_share_by values Xs test same =
    ap (λ (t : ℕ → Bool). option_map (λ (numbered : ℕ × ℕ). numbered.0) (find (is_impossible t) (enumerate_from 0 Xs))) (fun_ext same)

pub misses_share_by : (values : List (Option SideBounds)) (Xs : List ℕ) (test : ℕ → Bool) → ((k : ℕ) → has_no_side values k ≡ test k)
    → misses_share_in values Xs ≡ list_any (is_missed test) (enumerate_from 0 Xs)
misses_share_by values Xs test same = ap (λ (t : ℕ → Bool). list_any (is_missed t) (enumerate_from 0 Xs)) (fun_ext same)
