-- The values of a variable by bounds: what is promised of a whole distribution for the exact numbers that they enclose.
use Rattle.std.specs.Prelude.{◌≡◌, ℕ, ◌≤◌, ⊤, Bool, not, ◌&&◌, ◌==◌, nat_le, List, [], ◌∷◌, map, find, slice_index_or, Option, Some, None, IfSome, is_none, option_map}
use Rattle.std.specs.List.{AllZip, AllByRecursion, enumerate_from, list_any}
use Rattle.arrayvec.specs.ArrayVec.{ArrayVec}
use Rattle.mk_states.specs.Ratios.{unit}
use Rattle.mk_exact.specs.Limits.{Side}
use Rattle.mk_spread.specs.Bounds.{AreFairUnits, Intervals, AreRightBounds}
use Rattle.mk_quote.specs.declared.side.SideBounds.{SideBounds}
use Rattle.mk_quote.specs.declared.values.ValueBounds.{ValueBounds}
use Rattle.mk_quote.specs.declared.values.SpreadBounds.{SpreadBounds}
use Rattle.mk_quote.specs.Sides.{AreBoundsOf, AreGraded, AreExact, ratio_for, interval_for}

-- the side of a value
abbrev pub side_in : SpreadBounds → ValueBounds → SideBounds
side_in bounds value = record { part = value.part; whole = bounds.whole; factor = value.factor }

-- the sides of all values, in order: none for one that cannot come
abbrev pub sides_in : SpreadBounds → List (Option SideBounds)
sides_in bounds = map (option_map (side_in bounds)) bounds.parts.items

-- bounds enclose a value's side; without bounds there is no side
abbrev pub IsEnclosed : Option SideBounds → Option Side → Type 0
IsEnclosed None None = ⊤
IsEnclosed (Some bounds) (Some side) = AreBoundsOf bounds side
IsEnclosed _ _ = ⊥

-- the bounds of each value enclose its side
abbrev pub EncloseEach : List (Option SideBounds) → List (Option Side) → Type 0
EncloseEach values sides = AllZip IsEnclosed values sides

abbrev pub AreEachGraded : List (Option SideBounds) → Type 0
AreEachGraded values = AllByRecursion (λ (value : Option SideBounds). IfSome value AreGraded) values

-- nothing was rounded: the small case of a whole distribution
abbrev pub AreEachExact : List (Option SideBounds) → Type 0
AreEachExact values = AllByRecursion (λ (value : Option SideBounds). IfSome value AreExact) values

-- the intervals are right for all sides that the bounds enclose
abbrev pub AreRightForEach : List (Option SideBounds) → Intervals → Type 0
AreRightForEach values intervals = (sides : List (Option Side)) → EncloseEach values sides → AreEachGraded values → AreRightBounds (AreEachExact values) sides intervals

-- the units are fair and solvent for these shares, for all sides that the bounds enclose
abbrev pub AreFairForEach : List (Option SideBounds) → List ℕ → List ℕ → Type 0
AreFairForEach values Xs Fs = (sides : List (Option Side)) → EncloseEach values sides → AreEachGraded values → AreFairUnits (AreEachExact values) sides Xs Fs

-- the least and the greatest share that a value may have: those that serve its side, and nothing where it has none
abbrev pub value_interval : Option SideBounds → Option (ℕ × ℕ)
value_interval None = Some (0, 0)
value_interval (Some side) = interval_for side

-- its units for a share: at the ends that give the fewest, and one whole unit where it has no side
abbrev pub value_ratio : Option SideBounds → ℕ → ℕ
value_ratio None X = unit
value_ratio (Some side) X = ratio_for side X

-- the units for each share
abbrev pub ratios_for : List (Option SideBounds) → List ℕ → List ℕ
ratios_for (value ∷ values) (X ∷ Xs) = value_ratio value X ∷ ratios_for values Xs
ratios_for _ _ = []

-- intervals as a list
abbrev pub intervals_in : Option (ArrayVec (ℕ × ℕ)) → Intervals
intervals_in intervals = option_map (λ listed. listed.items) intervals

-- ---- shares at the wrong places

-- a value has no side, as none beyond the last has
abbrev pub has_no_side : List (Option SideBounds) → ℕ → Bool
has_no_side values k = is_none (slice_index_or values k None)

-- the first value that has a share and no side
abbrev pub impossible_share_in : List (Option SideBounds) → List ℕ → Option ℕ
impossible_share_in values Xs =
    option_map (λ (numbered : ℕ × ℕ). numbered.0) (find (λ (numbered : ℕ × ℕ). nat_le 1 (numbered.1) && has_no_side values (numbered.0)) (enumerate_from 0 Xs))

-- some value has a side and no share
abbrev pub misses_share_in : List (Option SideBounds) → List ℕ → Bool
misses_share_in values Xs = list_any (λ (numbered : ℕ × ℕ). (numbered.1 == 0) && not (has_no_side values (numbered.0))) (enumerate_from 0 Xs)

-- a share of at least one part in a million for a value with a side, and no share for one without
abbrev pub SuitsSide : Option SideBounds → ℕ → Type 0
SuitsSide None X = X ≡ 0
SuitsSide (Some side) X = 1 ≤ X
