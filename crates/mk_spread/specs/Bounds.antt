-- Right bounds of a whole distribution, for the exact numbers of each value.
use Rattle.std.specs.Prelude.{◌≡◌, ℕ, ◌≤◌, ⊤, List, [], ◌∷◌, Any, Option, Some, None, IfSome, option_map, ◌↔◌}
use Rattle.std.specs.List.{AllZip}
use Rattle.mk_net.specs.Bounds.{max_share}
use Rattle.mk_states.specs.Ratios.{unit}
use Rattle.mk_exact.specs.Limits.{Side, IsFairAndSolvent, IsWanted, IsFloorSolvent, Inside, IsWithinRange}

-- units for a value's share: fair and solvent on its side; a value that cannot come has no side, no share, and one whole unit
abbrev pub IsFairFor : Type 0 → Option Side → ℕ → ℕ → Type 0
IsFairFor small None X F = (X ≡ 0) × (F ≡ unit)
IsFairFor small (Some side) X F = IsFairAndSolvent small side X F

-- one number of units for each value and its share
abbrev pub AreFairUnits : Type 0 → List (Option Side) → List ℕ → List ℕ → Type 0
AreFairUnits small [] [] [] = ⊤
AreFairUnits small (side ∷ sides) (X ∷ Xs) (F ∷ Fs) = IsFairFor small side X F × AreFairUnits small sides Xs Fs
AreFairUnits small _ _ _ = ⊥

-- none, or the least and the greatest share for each value
abbrev pub Intervals : Type 0
Intervals = Option (List (ℕ × ℕ))

-- each share lies in its value's interval
abbrev pub InsideEach : Intervals → List ℕ → Type 0
InsideEach None Xs = ⊥
InsideEach (Some intervals) Xs = AllZip (λ interval X. Inside (Some interval) X) intervals Xs

-- an interval is right for a side: what is inside can be traded, what can well be traded is inside, and in the small case
-- exactly what the exact floor allows
pub record IsRightInterval (small : Type 0) (side : Side) (interval : ℕ × ℕ) : Type 0 where
  pub in_range : IsWithinRange (Some interval)
  pub sound : (X : ℕ) → Inside (Some interval) X → (F : ℕ) × IsFairAndSolvent small side X F
  pub near_complete : (X : ℕ) → 1 ≤ X → X ≤ max_share → IsWanted side X → Inside (Some interval) X
  pub exact : small → (X : ℕ) → 1 ≤ X → X ≤ max_share → Inside (Some interval) X ↔ IsFloorSolvent side X

-- the interval of a value: right for its side, or nothing alone for a value that cannot come
abbrev pub IsRightFor : Type 0 → Option Side → ℕ × ℕ → Type 0
IsRightFor small None interval = interval ≡ (0, 0)
IsRightFor small (Some side) interval = IsRightInterval small side interval

-- an interval before others, where all are given
abbrev pub given_with : Option (ℕ × ℕ) → Intervals → Intervals
given_with None others = None
given_with (Some interval) others = option_map (λ intervals. interval ∷ intervals) others

-- the intervals of all values, where each has one
abbrev pub all_given : List (Option (ℕ × ℕ)) → Intervals
all_given [] = Some []
all_given (o ∷ os) = given_with o (all_given os)

-- no share of a value that can come meets a property on its side
abbrev pub NoShare : (Side → ℕ → Type 0) → Option Side → Type 0
NoShare P None = ⊥
NoShare P (Some side) = (X : ℕ) → 1 ≤ X → X ≤ max_share → ¬ P side X

-- bounds are right: each interval that is given is, and none are given only where no share of some value that can come can well be
-- traded; in the small case exactly where the exact floor allows none of some such value
pub record AreRightBounds (small : Type 0) (sides : List (Option Side)) (intervals : Intervals) : Type 0 where
  pub given : IfSome intervals (AllZip (IsRightFor small) sides)
  pub none : (intervals ≡ None) → Any (NoShare IsWanted) sides
  pub exactly_none : small → (intervals ≡ None) ↔ Any (NoShare IsFloorSolvent) sides
