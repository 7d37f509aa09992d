-- The laws of trades of a whole distribution. Each is the contract of a function of this crate, and so proved.
use Rattle.std.specs.Prelude.{◌≡◌, ℕ, ◌<◌, ◌≤◌, List, length, slice_index, sum, All}
use Rattle.mk_net.specs.Bounds.{million, max_values}
use Rattle.mk_net.specs.Network.{Variable, IsNetwork, sizes}
use Rattle.mk_net.specs.Asked.{IsUnits}
use Rattle.mk_exact.specs.History.{Entry}
use Rattle.mk_states.specs.OfNetwork.{IsRatioOf}
use Rattle.mk_exact.specs.Accepted.{IsSafeTrade}
use Rattle.mk_exact.specs.Prices.{exact_price}
use Rattle.mk_exact.specs.Laws.{IsNear}
use Rattle.mk_spread.specs.Spreads.{SpreadAsked, asked_of, IsSpreadOf, spread_ratio, spread_traded}
use Rattle.mk_spread.specs.Markets.{IsFairList}

-- a fair and solvent list, for shares of a million together, makes a safe trade
abbrev pub FairListIsSafe : Type 0
FairListIsSafe = (network : List Variable) (H : List Entry) (u : ℕ) (spread : SpreadAsked) (Xs Fs : List ℕ) → spread.variable < length network
    → sum Xs ≤ million → IsFairList network H u spread Xs Fs → IsSafeTrade network H u (spread_ratio spread Fs)

-- its ratio speaks of the network's own pairs, with a positive number of units for each value
abbrev pub FairListIsRatio : Type 0
FairListIsRatio = (network : List Variable) (H : List Entry) (u : ℕ) (spread : SpreadAsked) (Xs Fs : List ℕ) → IsSpreadOf network spread
    → IsFairList network H u spread Xs Fs → IsRatioOf network (spread_ratio spread Fs)

-- as many as a variable may have values
pub record AreOfValues {X : Type 0} (xs : List X) : Type 0 where
  pub two : 2 ≤ length xs
  pub few : length xs ≤ max_values

-- 2 to 16 numbers of units, each of which fits
abbrev pub FairListFits : Type 0
FairListFits = (network : List Variable) (H : List Entry) (u : ℕ) (spread : SpreadAsked) (Xs Fs : List ℕ) → IsNetwork network
    → spread.variable < length network → IsFairList network H u spread Xs Fs → AreOfValues Fs × All IsUnits Fs

-- it takes the exact price of each value to its share, to within 2^-27
abbrev pub SpreadMoves : Type 0
SpreadMoves = (network : List Variable) (H : List Entry) (u : ℕ) (spread : SpreadAsked) (Xs Fs : List ℕ) → spread.variable < length network
    → sum Xs ≡ million → IsFairList network H u spread Xs Fs → (value : ℕ) → value < slice_index (sizes network) spread.variable
    → IsNear (exact_price network (spread_traded H u spread Fs) (asked_of spread value)) (slice_index Xs value)
