-- What the bounds of a side give for every exact side that they enclose.
use Rattle.std.specs.Prelude.{◌≡◌, ℕ, ◌≤◌, ◌↔◌, false, List, length, Option, None}
use Rattle.std.specs.List.{AllZip}
use Rattle.mk_exact.specs.Limits.{Side, IsFairAndSolvent, IsWanted, IsFloorSolvent}
use Rattle.mk_quote.specs.declared.side.SideBounds.{SideBounds}
use Rattle.mk_quote.specs.Sides.{AreBoundsOf, AreGraded, AreExact, ratio_for, Serves}
use Rattle.mk_quote.specs.Values.{impossible_share_in, misses_share_in, SuitsSide}

-- what serves is fair and solvent
abbrev pub ServedIsFair : Type 0
ServedIsFair = (bounds : SideBounds) (side : Side) → AreBoundsOf bounds side → AreGraded bounds
    → (X : ℕ) → 1 ≤ X → Serves bounds X → IsFairAndSolvent (AreExact bounds) side X (ratio_for bounds X)

-- what can well be traded serves
abbrev pub WantedServes : Type 0
WantedServes = (bounds : SideBounds) (side : Side) → AreBoundsOf bounds side → AreGraded bounds
    → (X : ℕ) → 1 ≤ X → IsWanted side X → Serves bounds X

-- where nothing was rounded, exactly what the exact floor of the units allows serves
abbrev pub ExactlyServes : Type 0
ExactlyServes = (bounds : SideBounds) (side : Side) → AreBoundsOf bounds side → AreExact bounds
    → (X : ℕ) → Serves bounds X ↔ IsFloorSolvent side X

-- shares of which none stands at a value without a side, and none is missing at one with a side, suit the sides
abbrev pub SharesSuit : Type 0
SharesSuit = (values : List (Option SideBounds)) (Xs : List ℕ) → length Xs ≡ length values → impossible_share_in values Xs ≡ None
    → misses_share_in values Xs ≡ false → AllZip SuitsSide values Xs
