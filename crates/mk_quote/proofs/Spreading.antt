-- The intervals that a quote keeps are right.
use Rattle.std.proofs.Common.{◌≡◌, ℕ, ◌+◌, ◌<◌, ◌≤◌, ◌↔◌, List, [], ◌∷◌, ◌++◌, map, take, drop, length, get_or, Option, Some, None, IfSome, option_map, All, inl, inr, refl, sym, ap, ◌∙◌, subst, append_assoc, append-nil}
use Rattle.std.specs.List.{AllZip, AllByRecursion}
use Rattle.std.proofs.lemmas.List.{drop_more, drop_all, map_more}
use Rattle.std.proofs.lemmas.List.Elements.{All-from_recursion}
use Rattle.mk_exact.specs.Limits.{Side, Inside, IsWithinRange}
use Rattle.mk_spread.specs.Bounds.{Intervals, given_with, all_given}
use Rattle.mk_spread.specs.Existing.{IsShareInterval}
use Rattle.mk_spread.proofs.Exist.{IsRightOrNone, collected}
use Rattle.mk_quote.specs.declared.side.SideBounds.{SideBounds}
use Rattle.mk_quote.specs.declared.values.ValueBounds.{ValueBounds}
use Rattle.mk_quote.specs.declared.values.SpreadBounds.{SpreadBounds}
use Rattle.mk_quote.specs.Sides.{AreBoundsOf, AreGraded, AreExact, ratio_for, Serves, interval_for}
use Rattle.mk_quote.specs.Values.{side_in, IsEnclosed, EncloseEach, AreEachGraded, AreEachExact, AreRightForEach, value_interval}
use Rattle.mk_quote.proofs.Serving.{served_is_fair, wanted_serves, exactly_serves}
use Rattle.mk_quote.proofs.Rightness.{fair_in, within}
use Rattle.mk_quote.proofs.Reaching.{interval_in_range, interval_serves}

abbrev pub intervals_for : List (Option SideBounds) → List (Option (ℕ × ℕ))
intervals_for values = map value_interval values

-- an interval that holds what serves is right, and none is where nothing serves
right_for : (small : Type 0) (bounds : SideBounds) (interval : Option (ℕ × ℕ)) (side : Side) → IsWithinRange interval
    → ((X : ℕ) → 1 ≤ X → X ≤ 999999 → Inside interval X ↔ Serves bounds X) → AreBoundsOf bounds side → AreGraded bounds → (small → AreExact bounds) → IsRightOrNone small (Some side) interval
right_for small bounds None side range serves of graded exact = (
  λ X p q wanted. (serves X p q).1 (wanted_serves bounds side of graded X p wanted),
  λ s X p q floor. (serves X p q).1 ((exactly_serves bounds side of (exact s) X).1 floor),
)
right_for small bounds (Some (low, high)) side range serves of graded exact = record {
  in_range = range;
  sound = λ X i. let w = within (Some (low, high)) range X i in
      (ratio_for bounds X, fair_in (AreExact bounds) small side X (ratio_for bounds X) exact (served_is_fair bounds side of graded X (w.0) ((serves X (w.0) (w.1)).0 i)));
  near_complete = λ X p q wanted. (serves X p q).1 (wanted_serves bounds side of graded X p wanted);
  exact = λ s X p q. (
    λ i. (exactly_serves bounds side of (exact s) X).0 ((serves X p q).0 i),
    λ floor. (serves X p q).1 ((exactly_serves bounds side of (exact s) X).1 floor),
  );
}

-- a value without a side may have nothing
right_value : (small : Type 0) (value : Option SideBounds) (side : Option Side) → IsEnclosed value side → IfSome value AreGraded → (small → IfSome value AreExact)
    → IsRightOrNone small side (value_interval value)
right_value small None None of graded exact = refl
right_value small None (Some side) of graded exact = absurd of
right_value small (Some value) None of graded exact = absurd of
right_value small (Some value) (Some side) of graded exact = right_for small value (interval_for value) side (interval_in_range value) (interval_serves value) of graded exact

each_right : (small : Type 0) (values : List (Option SideBounds)) (sides : List (Option Side)) → EncloseEach values sides
    → AreEachGraded values → (small → AreEachExact values) → AllZip (IsRightOrNone small) sides (intervals_for values)
each_right small [] [] of graded exact = tt
each_right small [] (side ∷ sides) of graded exact = absurd of
each_right small (value ∷ values) [] of graded exact = absurd of
each_right small (value ∷ values) (side ∷ sides) of graded exact = (
  right_value small value side of.0 graded.0 (λ s. (exact s).0),
  each_right small values sides of.1 graded.1 (λ s. (exact s).1),
)

pub intervals_are_right : (values : List (Option SideBounds)) → AreRightForEach values (all_given (intervals_for values))
intervals_are_right values = λ sides enclose graded.
    collected (AreEachExact values) sides (intervals_for values) (each_right (AreEachExact values) values sides enclose graded (λ exact. exact))

-- each interval that is given is one of shares
pub value_in_range : (value : Option SideBounds) → IfSome (value_interval value) IsShareInterval
value_in_range None = inl refl
value_in_range (Some value) = at (interval_for value) (interval_in_range value)
  where
    at : (o : Option (ℕ × ℕ)) → IsWithinRange o → IfSome o IsShareInterval
    at None range = tt
    at (Some interval) range = inr range

pub given_in_range : (values : List (Option SideBounds)) → IfSome (all_given (intervals_for values)) (AllByRecursion IsShareInterval)
given_in_range [] = tt
given_in_range (value ∷ values) = at (value_interval value) (value_in_range value) (all_given (intervals_for values)) (given_in_range values)
  where
    at : (o : Option (ℕ × ℕ)) → IfSome o IsShareInterval → (rest : Intervals) → IfSome rest (AllByRecursion IsShareInterval)
        → IfSome (given_with o rest) (AllByRecursion IsShareInterval)
    at None range rest h = tt
    at (Some interval) range None h = tt
    at (Some interval) range (Some listed) h = (range, h)

-- ---- place by place

-- the intervals so far before those of the rest are those of all
abbrev pub AreIntervalsSoFar : List (Option SideBounds) → ℕ → List (ℕ × ℕ) → Type 0
AreIntervalsSoFar values i listed = all_given (intervals_for values) ≡ option_map (λ rest. listed ++ rest) (all_given (intervals_for (drop i values)))

pub none_before : (values : List (Option SideBounds)) → AreIntervalsSoFar values 0 []
none_before values = at (all_given (intervals_for values))
  where
    at : (o : Intervals) → o ≡ option_map (λ rest. [] ++ rest) o
    at None = refl
    at (Some listed) = refl

joined : (listed : List (ℕ × ℕ)) (interval : ℕ × ℕ) (o : Intervals) → option_map (λ rest. listed ++ rest) (given_with (Some interval) o) ≡ option_map (λ rest. (listed ++ interval ∷ []) ++ rest) o
joined listed interval None = refl
joined listed interval (Some rest) = ap (λ (l : List (ℕ × ℕ)). Some l) (sym (append_assoc listed (interval ∷ []) rest))

pub one_interval_more : (values : List (Option SideBounds)) (i : ℕ) (listed : List (ℕ × ℕ)) (value : Option SideBounds) (interval : ℕ × ℕ) → i < length values → AreIntervalsSoFar values i listed
    → value_interval (get_or values i value) ≡ Some interval → AreIntervalsSoFar values (i + 1) (listed ++ interval ∷ [])
one_interval_more values i listed value interval p before given =
    before
    ∙ ap (λ (vs : List (Option SideBounds)). option_map (λ rest. listed ++ rest) (all_given (intervals_for vs))) (drop_more values i value p)
    ∙ ap (λ (o : Option (ℕ × ℕ)). option_map (λ rest. listed ++ rest) (given_with o (all_given (intervals_for (drop (i + 1) values))))) given
    ∙ joined listed interval (all_given (intervals_for (drop (i + 1) values)))

-- a value without an interval leaves none given
pub none_given_at : (values : List (Option SideBounds)) (i : ℕ) (listed : List (ℕ × ℕ)) (value : Option SideBounds) → i < length values → AreIntervalsSoFar values i listed
    → value_interval (get_or values i value) ≡ None → all_given (intervals_for values) ≡ None
none_given_at values i listed value p before none =
    before
    ∙ ap (λ (vs : List (Option SideBounds)). option_map (λ rest. listed ++ rest) (all_given (intervals_for vs))) (drop_more values i value p)
    ∙ ap (λ (o : Option (ℕ × ℕ)). option_map (λ rest. listed ++ rest) (given_with o (all_given (intervals_for (drop (i + 1) values))))) none

pub all_intervals : (values : List (Option SideBounds)) (i : ℕ) (listed : List (ℕ × ℕ)) → length values ≤ i → AreIntervalsSoFar values i listed → all_given (intervals_for values) ≡ Some listed
all_intervals values i listed p before =
    before
    ∙ ap (λ (vs : List (Option SideBounds)). option_map (λ rest. listed ++ rest) (all_given (intervals_for vs))) (drop_all i values p)
    ∙ ap (λ (l : List (ℕ × ℕ)). Some l) (append-nil listed)

-- the sides so far are those of the bounds
pub one_side_more : (bounds : SpreadBounds) (sides : List (Option SideBounds)) (i : ℕ) (part : Option ValueBounds) (more : Option SideBounds) → i < length bounds.parts.items
    → sides ≡ map (option_map (side_in bounds)) (take i bounds.parts.items) → more ≡ option_map (side_in bounds) (get_or bounds.parts.items i part)
    → sides ++ more ∷ [] ≡ map (option_map (side_in bounds)) (take (i + 1) bounds.parts.items)
one_side_more bounds sides i part more p before same =
    ap (λ (listed : List (Option SideBounds)). listed ++ more ∷ []) before
    ∙ ap (λ (side : Option SideBounds). map (option_map (side_in bounds)) (take i bounds.parts.items) ++ side ∷ []) same
    ∙ sym (map_more (option_map (side_in bounds)) bounds.parts.items i part p)

-- ---- what the intervals are

pub right_if_given : (values items : List (Option SideBounds)) → items ≡ values → (o : Intervals) → all_given (intervals_for items) ≡ o → AreRightForEach values o
right_if_given values items same o given =
    subst (AreRightForEach values) (ap (λ (vs : List (Option SideBounds)). all_given (intervals_for vs)) (sym same) ∙ given) (intervals_are_right values)

pub in_range_if_given : (values items : List (Option SideBounds)) → items ≡ values → (listed : List (ℕ × ℕ)) → all_given (intervals_for items) ≡ Some listed → All IsShareInterval listed
in_range_if_given values items same listed given =
    All-from_recursion IsShareInterval listed
    (subst (λ (o : Intervals). IfSome o (AllByRecursion IsShareInterval)) (ap (λ (vs : List (Option SideBounds)). all_given (intervals_for vs)) (sym same) ∙ given) (given_in_range values))
