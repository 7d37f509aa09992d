-- What bounds say of the values of a variable, and which numbers a judge of a whole distribution
-- compares.
use Rattle.std.specs.Prelude.{ℕ, ⊤, ◌⊎◌, Bool, List, ◌∷◌, Option, Some, None, IfSome}
use Rattle.std.specs.List.{AllZip, AllByRecursion}
use Rattle.mk_exact.specs.Limits.{Side}
use Rattle.mk_spread.specs.Bounds.{Intervals}
use Rattle.mk_quote.specs.declared.side.SideBounds.{SideBounds}
use Rattle.mk_judge.specs.Units.{AreSideBounds, HasTradeRange, AreUnitsNear}
use Rattle.mk_judge.specs.Wanted.{IsWantedNear}
use Rattle.mk_judge.specs.Questions.{IsSideNear}

-- the bounds are those of a value's side; without bounds there is no side
abbrev pub IsSideFor : Bool → Option SideBounds → Option Side → Type 0
IsSideFor small None None = ⊤
IsSideFor small (Some bounds) (Some side) = AreSideBounds bounds small side
IsSideFor small _ _ = ⊥

-- place by place
abbrev pub AreEachSideBounds : List (Option SideBounds) → Bool → List (Option Side) → Type 0
AreEachSideBounds values small sides = AllZip (IsSideFor small) values sides

-- one more trade has few enough bits for the factor of each value
abbrev pub HaveTradeRange : List (Option SideBounds) → Type 0
HaveTradeRange values = AllByRecursion
    (λ (value : Option SideBounds). IfSome value (λ bounds. HasTradeRange bounds.factor)) values

-- something is known of bounds and of their side
abbrev pub IsOf : (SideBounds → Side → Type 0) → Option SideBounds → Option Side → Type 0
IsOf Known (Some bounds) (Some side) = Known bounds side
IsOf Known _ _ = ⊥

-- for some value two numbers are near that decide whether a share is wanted
abbrev pub IsSomeWantedNear : List (Option SideBounds) → List (Option Side) → Type 0
IsSomeWantedNear (value ∷ values) (side ∷ sides) =
    IsOf IsWantedNear value side ⊎ IsSomeWantedNear values sides
IsSomeWantedNear _ _ = ⊥

-- for some value two numbers are near that decide about its interval
abbrev pub IsSomeIntervalNear : List (Option SideBounds) → List (Option Side) → List (ℕ × ℕ)
    → Type 0
IsSomeIntervalNear (value ∷ values) (side ∷ sides) ((low, high) ∷ intervals) =
    IsOf (λ bounds of_bounds. IsSideNear bounds of_bounds low high) value side
    ⊎ IsSomeIntervalNear values sides intervals
IsSomeIntervalNear _ _ _ = ⊥

abbrev pub AreIntervalsNear : List (Option SideBounds) → List (Option Side) → Intervals → Type 0
AreIntervalsNear values sides None = IsSomeWantedNear values sides
AreIntervalsNear values sides (Some intervals) = IsSomeIntervalNear values sides intervals

-- for some value two numbers are near that decide about its units for a share
abbrev pub AreSomeUnitsNear : Bool → List (Option SideBounds) → List (Option Side) → List ℕ → List ℕ
    → Type 0
AreSomeUnitsNear small (value ∷ values) (side ∷ sides) (X ∷ Xs) (F ∷ Fs) =
    IsOf (λ bounds of_bounds. AreUnitsNear bounds small of_bounds F X) value side
    ⊎ AreSomeUnitsNear small values sides Xs Fs
AreSomeUnitsNear small _ _ _ _ = ⊥
