-- What the bounds of a question promise of its market. Each law is the contract of a function of this crate, and so proved.
use Rattle.std.specs.Prelude.{ℕ, List, Option}
use Rattle.mk_net.specs.Network.{Variable}
use Rattle.mk_net.specs.Asked.{Asked}
use Rattle.mk_exact.specs.History.{Entry}
use Rattle.mk_exact.specs.Weight.{IsSmall}
use Rattle.mk_exact.specs.Limits.{Side}
use Rattle.mk_exact.specs.Sides.{AreSides, AreRightLimits, IsFairPair}
use Rattle.mk_quote.specs.declared.bounds.Bounds.{Bounds}
use Rattle.mk_quote.specs.Bounds.{AreFairAndSolvent, AreRightFor}
use Rattle.mk_spread.specs.Spreads.{SpreadAsked}
use Rattle.mk_spread.specs.Bounds.{Intervals}
use Rattle.mk_spread.specs.Markets.{AreValueSides, AreRightBoundsOf, IsFairList}
use Rattle.mk_quote.specs.declared.side.SideBounds.{SideBounds}
use Rattle.mk_quote.specs.Values.{AreFairForEach, AreRightForEach}
use Rattle.mk_answers.specs.Open.{AreBoundsFor, AreSideBoundsFor}

-- units that are fair and solvent by bounds for the two sides of a question are a fair pair
abbrev pub FairByBounds : Type 0
FairByBounds = (network : List Variable) (H : List Entry) (u : ℕ) (asked : Asked) (bounds : Bounds) (hit miss : Side) (X F_t F_n : ℕ)
    → AreSides network H u asked hit miss → AreBoundsFor bounds (IsSmall network H) hit miss
    → AreFairAndSolvent bounds X F_t F_n → IsFairPair network H u asked X F_t F_n

-- limits that are right by them are right for the question
abbrev pub RightByBounds : Type 0
RightByBounds = (network : List Variable) (H : List Entry) (u : ℕ) (asked : Asked) (bounds : Bounds) (hit miss : Side) (limits : Option (ℕ × ℕ))
    → AreSides network H u asked hit miss → AreBoundsFor bounds (IsSmall network H) hit miss
    → AreRightFor bounds limits → AreRightLimits network H u asked limits

-- units that are fair and solvent by bounds for the sides of all values are a fair list
abbrev pub FairListByBounds : Type 0
FairListByBounds = (network : List Variable) (H : List Entry) (u : ℕ) (spread : SpreadAsked) (values : List (Option SideBounds)) (sides : List (Option Side)) (Xs Fs : List ℕ)
    → AreValueSides network H u spread sides → AreSideBoundsFor values (IsSmall network H) sides
    → AreFairForEach values Xs Fs → IsFairList network H u spread Xs Fs

-- intervals that are right by them are right for the distribution
abbrev pub RightBoundsByBounds : Type 0
RightBoundsByBounds = (network : List Variable) (H : List Entry) (u : ℕ) (spread : SpreadAsked) (values : List (Option SideBounds)) (sides : List (Option Side)) (intervals : Intervals)
    → AreValueSides network H u spread sides → AreSideBoundsFor values (IsSmall network H) sides
    → AreRightForEach values intervals → AreRightBoundsOf network H u spread intervals
