-- Shares inside the interval of each value are those inside of all, and their units are fair and solvent.
use Rattle.std.proofs.Common.{◌≡◌, ℕ, zero, suc, ◌+◌, ◌<◌, ◌≤◌, List, [], ◌∷◌, ◌++◌, drop, length, get_or, Option, Some, None, IfSome, refl, sym, ap, ◌∙◌, subst, arith, append_assoc, append-nil}
use Rattle.std.specs.List.{AllZip}
use Rattle.std.proofs.lemmas.List.{drop_more, drop_all}
use Rattle.mk_exact.specs.Limits.{Side, IsFairAndSolvent, Inside}
use Rattle.mk_spread.specs.Bounds.{IsFairFor, AreFairUnits, Intervals, InsideEach, given_with, all_given}
use Rattle.mk_quote.specs.declared.side.SideBounds.{SideBounds}
use Rattle.mk_quote.specs.Sides.{AreBoundsOf, AreGraded, AreExact, ratio_for, interval_for}
use Rattle.mk_quote.specs.Values.{IsEnclosed, EncloseEach, AreEachGraded, AreEachExact, AreFairForEach, value_interval, value_ratio, ratios_for}
use Rattle.mk_quote.proofs.Serving.{served_is_fair}
use Rattle.mk_quote.proofs.Rightness.{fair_in, within}
use Rattle.mk_quote.proofs.Reaching.{interval_in_range, interval_serves}
use Rattle.mk_quote.proofs.Spreading.{intervals_for}

-- a share inside a value's interval
abbrev pub IsTaken : Option SideBounds → ℕ → Type 0
IsTaken value X = Inside (value_interval value) X

-- the units for shares inside
abbrev pub AreUnitsFor : List (Option SideBounds) → List ℕ → List ℕ → Type 0
AreUnitsFor [] [] [] = Unit {0}
AreUnitsFor (value ∷ values) (X ∷ Xs) (F ∷ Fs) = IsTaken value X × (F ≡ value_ratio value X) × AreUnitsFor values Xs Fs
AreUnitsFor _ _ _ = ⊥

-- inside all is inside each
pub inside_taken : (values : List (Option SideBounds)) (Xs : List ℕ) → InsideEach (all_given (intervals_for values)) Xs → AllZip IsTaken values Xs
inside_taken [] [] i = tt
inside_taken [] (X ∷ Xs) i = absurd i
inside_taken (value ∷ values) [] i = none_listed (value_interval value) (all_given (intervals_for values)) i
  where
    none_listed : (o : Option (ℕ × ℕ)) (given : Intervals) → InsideEach (given_with o given) [] → ⊥
    none_listed None given i = i
    none_listed (Some n) None i = i
    none_listed (Some n) (Some listed) i = i
inside_taken (value ∷ values) (X ∷ Xs) i =
    let both = parted (value_interval value) (all_given (intervals_for values)) i in
    (both.0, inside_taken values Xs (both.1))
  where
    parted : (o : Option (ℕ × ℕ)) (given : Intervals) → InsideEach (given_with o given) (X ∷ Xs) → Inside o X × InsideEach given Xs
    parted None given i = absurd i
    parted (Some n) None i = absurd i
    parted (Some n) (Some listed) i = i

-- and inside each is inside all
pub taken_inside : (values : List (Option SideBounds)) (Xs : List ℕ) → AllZip IsTaken values Xs → InsideEach (all_given (intervals_for values)) Xs
taken_inside [] [] h = tt
taken_inside [] (X ∷ Xs) h = absurd h
taken_inside (value ∷ values) [] h = absurd h
taken_inside (value ∷ values) (X ∷ Xs) h = at (value_interval value) h.0 (all_given (intervals_for values)) (taken_inside values Xs h.1)
  where
    at : (o : Option (ℕ × ℕ)) → Inside o X → (given : Intervals) → InsideEach given Xs → InsideEach (given_with o given) (X ∷ Xs)
    at None i given rest = absurd i
    at (Some n) i None rest = absurd rest
    at (Some n) i (Some listed) rest = (i, rest)

pub units_taken : (values : List (Option SideBounds)) (Xs Fs : List ℕ) → AreUnitsFor values Xs Fs → AllZip IsTaken values Xs
units_taken [] [] [] h = tt
units_taken [] [] (F ∷ Fs) h = absurd h
units_taken [] (X ∷ Xs) Fs h = absurd h
units_taken (value ∷ values) [] Fs h = absurd h
units_taken (value ∷ values) (X ∷ Xs) [] h = absurd h
units_taken (value ∷ values) (X ∷ Xs) (F ∷ Fs) h = (h.0, units_taken values Xs Fs h.2)

-- they are the ratios that the sides give
pub units_are_ratios : (values : List (Option SideBounds)) (Xs Fs : List ℕ) → AreUnitsFor values Xs Fs → Fs ≡ ratios_for values Xs
units_are_ratios [] [] [] h = refl
units_are_ratios [] [] (F ∷ Fs) h = absurd h
units_are_ratios [] (X ∷ Xs) Fs h = absurd h
units_are_ratios (value ∷ values) [] Fs h = absurd h
units_are_ratios (value ∷ values) (X ∷ Xs) [] h = absurd h
units_are_ratios (value ∷ values) (X ∷ Xs) (F ∷ Fs) h =
    ap (λ (n : ℕ). n ∷ Fs) h.1 ∙ ap (λ (ns : List ℕ). value_ratio value X ∷ ns) (units_are_ratios values Xs Fs h.2)

-- the units for a share inside are fair and solvent
side_fair : (small : Type 0) (value : SideBounds) (side : Side) (X F : ℕ) → Inside (interval_for value) X → F ≡ ratio_for value X → AreBoundsOf value side → AreGraded value
    → (small → AreExact value) → IsFairAndSolvent small side X F
side_fair small value side X F taken same of graded exact =
    let w = within (interval_for value) (interval_in_range value) X taken in
    subst (λ n. IsFairAndSolvent small side X n) (sym same)
    (fair_in (AreExact value) small side X (ratio_for value X) exact (served_is_fair value side of graded X (w.0) ((interval_serves value X (w.0) (w.1)).0 taken)))

unit_fair : (small : Type 0) (value : Option SideBounds) (side : Option Side) (X F : ℕ) → IsTaken value X → F ≡ value_ratio value X → IsEnclosed value side → IfSome value AreGraded
    → (small → IfSome value AreExact) → IsFairFor small side X F
unit_fair small None None X F taken same of graded exact = (omega (arith, taken.1), same)
unit_fair small None (Some side) X F taken same of graded exact = absurd of
unit_fair small (Some value) None X F taken same of graded exact = absurd of
unit_fair small (Some value) (Some side) X F taken same of graded exact = side_fair small value side X F taken same of graded exact

each_fair : (small : Type 0) (values : List (Option SideBounds)) (Xs Fs : List ℕ) (sides : List (Option Side)) → AreUnitsFor values Xs Fs
    → EncloseEach values sides → AreEachGraded values → (small → AreEachExact values) → AreFairUnits small sides Xs Fs
each_fair small [] [] [] [] h of graded exact = tt
each_fair small [] [] [] (side ∷ sides) h of graded exact = absurd of
each_fair small [] [] (F ∷ Fs) sides h of graded exact = absurd h
each_fair small [] (X ∷ Xs) Fs sides h of graded exact = absurd h
each_fair small (value ∷ values) [] Fs sides h of graded exact = absurd h
each_fair small (value ∷ values) (X ∷ Xs) [] sides h of graded exact = absurd h
each_fair small (value ∷ values) (X ∷ Xs) (F ∷ Fs) [] h of graded exact = absurd of
each_fair small (value ∷ values) (X ∷ Xs) (F ∷ Fs) (side ∷ sides) h of graded exact = (
  unit_fair small value side X F h.0 h.1 of.0 graded.0 (λ s. (exact s).0),
  each_fair small values Xs Fs sides h.2 of.1 graded.1 (λ s. (exact s).1),
)

pub units_are_fair : (values : List (Option SideBounds)) (Xs Fs : List ℕ) → AreUnitsFor values Xs Fs → AreFairForEach values Xs Fs
units_are_fair values Xs Fs h = λ sides enclose graded. each_fair (AreEachExact values) values Xs Fs sides h enclose graded (λ exact. exact)

-- ---- place by place

taken_at : (values : List (Option SideBounds)) (Xs : List ℕ) (i : ℕ) (value : Option SideBounds) (X : ℕ) → i < length values → AllZip IsTaken values Xs → IsTaken (get_or values i value) (get_or Xs i X)
taken_at [] Xs i value X p h = absurd (omega arith)
taken_at (v ∷ values) [] i value X p h = absurd h
taken_at (v ∷ values) (x ∷ Xs) zero value X p h = h.0
taken_at (v ∷ values) (x ∷ Xs) (suc i) value X p h = taken_at values Xs i value X (omega arith) h.1

-- a share outside of its interval leaves the list outside
pub outside_at : (values : List (Option SideBounds)) (Xs : List ℕ) (i : ℕ) (value : Option SideBounds) (X : ℕ) → i < length values → ¬ IsTaken (get_or values i value) (get_or Xs i X)
    → ¬ InsideEach (all_given (intervals_for values)) Xs
outside_at values Xs i value X p outside inside = outside (taken_at values Xs i value X p (inside_taken values Xs inside))

-- the units so far, with any units of the rest, are units of all
abbrev pub AreUnitsSoFar : List (Option SideBounds) → List ℕ → ℕ → List ℕ → Type 0
AreUnitsSoFar values Xs i Fs = (rest : List ℕ) → AreUnitsFor (drop i values) (drop i Xs) rest → AreUnitsFor values Xs (Fs ++ rest)

pub one_more : (values : List (Option SideBounds)) (Xs Fs : List ℕ) (i : ℕ) (value : Option SideBounds) (X F : ℕ) → i < length values → i < length Xs → AreUnitsSoFar values Xs i Fs
    → IsTaken (get_or values i value) (get_or Xs i X) → F ≡ value_ratio (get_or values i value) (get_or Xs i X) → AreUnitsSoFar values Xs (i + 1) (Fs ++ F ∷ [])
one_more values Xs Fs i value X F p q before taken same rest h = subst (AreUnitsFor values Xs) (sym (append_assoc Fs (F ∷ []) rest)) (before (F ∷ rest) joined)
  where
    joined : AreUnitsFor (drop i values) (drop i Xs) (F ∷ rest)
    joined = rw (drop_more values i value p, drop_more Xs i X q) (taken, same, h)

pub all_units : (values : List (Option SideBounds)) (Xs Fs : List ℕ) (i : ℕ) → length values ≤ i → length Xs ≤ i → AreUnitsSoFar values Xs i Fs → AreUnitsFor values Xs Fs
all_units values Xs Fs i p q h = subst (AreUnitsFor values Xs) (append-nil Fs) (h [] none_left)
  where
    none_left : AreUnitsFor (drop i values) (drop i Xs) []
    none_left = rw (drop_all i values p, drop_all i Xs q) tt
