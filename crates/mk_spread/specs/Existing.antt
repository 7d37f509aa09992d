-- What exists for a whole distribution, and what its right bounds say of a list of shares.
use Rattle.std.specs.Prelude.{◌≡◌, ℕ, ◌<◌, ◌⊎◌, ⊤, List, length, All, Option, Some, IfSome, ◌↔◌}
use Rattle.std.specs.List.{AllByRecursion}
use Rattle.mk_net.specs.Network.{Variable, IsNetwork}
use Rattle.mk_exact.specs.History.{Entry}
use Rattle.mk_exact.specs.Weight.{IsSmall}
use Rattle.mk_exact.specs.Limits.{Side, IsWithinRange}
use Rattle.mk_exact.specs.Sound.{IsSound}
use Rattle.mk_exact.specs.Proper.{IsProper}
use Rattle.mk_exact.specs.Existing.{IsPositivePrice, IsOpenSide}
use Rattle.mk_spread.specs.Spreads.{SpreadAsked}
use Rattle.mk_spread.specs.Bounds.{Intervals, InsideEach, AreRightBounds}
use Rattle.mk_spread.specs.Markets.{AreValueSides, AreRightBoundsOf, IsFairList, HasFairList, SuitValues, CanBeSpread}
use Rattle.mk_spread.specs.Laws.{AreOfValues}

-- sides of positive prices have right bounds, none or some
abbrev pub BoundsExist : Type 0
BoundsExist = (sides : List (Option Side)) → AllByRecursion (λ (side : Option Side). IfSome side (λ s. IsPositivePrice s.price)) sides
    → (intervals : Intervals) × AreRightBounds ⊤ sides intervals

-- a list of shares is inside of bounds or not
abbrev pub InsideEachIsDecided : Type 0
InsideEachIsDecided = (intervals : Intervals) (Xs : List ℕ) → InsideEach intervals Xs ⊎ (¬ InsideEach intervals Xs)

-- a side for each value that can come, with a positive price of at most one, and where the history is
-- sound a factor of at least one
pub record HasValueSides (network : List Variable) (H : List Entry) (u : ℕ) (spread : SpreadAsked) : Type 0 where
  pub sides : List (Option Side)
  pub are_sides : AreValueSides network H u spread sides
  pub each_open : AllByRecursion (λ (side : Option Side). IfSome side (IsOpenSide (IsSound network H)))
      sides

-- in a proper history each distribution that can be asked about has them, for each user
abbrev pub ValueSidesExist : Type 0
ValueSidesExist = (network : List Variable) (H : List Entry) (u : ℕ) (spread : SpreadAsked)
    → IsNetwork network → IsProper network H
    → CanBeSpread network H spread → HasValueSides network H u spread

-- and right bounds
abbrev pub RightBoundsExist : Type 0
RightBoundsExist = (network : List Variable) (H : List Entry) (u : ℕ) (spread : SpreadAsked)
    → IsNetwork network → IsProper network H
    → CanBeSpread network H spread → (intervals : Intervals) × AreRightBoundsOf network H u spread intervals

-- an interval of shares: in order within 1 to 999,999, or of nothing alone
abbrev pub IsShareInterval : ℕ × ℕ → Type 0
IsShareInterval interval = (interval ≡ (0, 0)) ⊎ IsWithinRange (Some interval)

-- bounds that are given are 2 to 16 such intervals
abbrev pub RightBoundsFit : Type 0
RightBoundsFit = (network : List Variable) (H : List Entry) (u : ℕ) (spread : SpreadAsked) (given : List (ℕ × ℕ)) → IsNetwork network
    → spread.variable < length network → AreRightBoundsOf network H u spread (Some given)
    → AreOfValues given × All IsShareInterval given

-- right bounds judge each list of shares: inside it can be traded, and else it is outside
abbrev pub BoundsJudge : Type 0
BoundsJudge = (network : List Variable) (H : List Entry) (u : ℕ) (spread : SpreadAsked) (intervals : Intervals) (Xs : List ℕ)
    → AreRightBoundsOf network H u spread intervals → (InsideEach intervals Xs × HasFairList network H u spread Xs) ⊎ (¬ InsideEach intervals Xs)

-- in the small case all right bounds have the same lists inside
abbrev pub BoundsAgree : Type 0
BoundsAgree = (network : List Variable) (H : List Entry) (u : ℕ) (spread : SpreadAsked) (first second : Intervals) (Xs : List ℕ) → IsSmall network H
    → AreRightBoundsOf network H u spread first → AreRightBoundsOf network H u spread second → InsideEach first Xs ↔ InsideEach second Xs

-- and what has a fair and solvent list is inside of them
abbrev pub FairListIsInside : Type 0
FairListIsInside = (network : List Variable) (H : List Entry) (u : ℕ) (spread : SpreadAsked) (intervals : Intervals) (Xs Fs : List ℕ) → IsSmall network H
    → SuitValues network H spread Xs → AreRightBoundsOf network H u spread intervals → IsFairList network H u spread Xs Fs
    → InsideEach intervals Xs
