-- Right bounds and fair lists of a market's question about a whole distribution.
use Rattle.std.specs.Prelude.{◌≡◌, ℕ, ◌≤◌, Bool, true, false, not, List, filter, length, slice_index, Option, None, MatchOption}
use Rattle.std.specs.List.{AllZip}
use Rattle.mk_net.specs.Bounds.{max_share}
use Rattle.mk_net.specs.Network.{Variable, sizes}
use Rattle.mk_net.specs.Events.{speaks_of, AreApart}
use Rattle.mk_states.specs.States.{numbers_below}
use Rattle.mk_states.specs.Events.{with_target}
use Rattle.mk_exact.specs.History.{Entry, resolutions}
use Rattle.mk_exact.specs.Weight.{IsSmall, cannot_come}
use Rattle.mk_exact.specs.Factors.{least_gain}
use Rattle.mk_exact.specs.Limits.{Side}
use Rattle.mk_exact.specs.Sides.{IsSide}
use Rattle.mk_spread.specs.Spreads.{SpreadAsked, asked_of, IsSpreadOf}
use Rattle.mk_spread.specs.Bounds.{AreFairUnits, Intervals, AreRightBounds}

-- the side of one value: none where it cannot come
abbrev pub IsValueSide : List Variable → List Entry → ℕ → SpreadAsked → ℕ → Option Side → Type 0
IsValueSide network H u spread value side =
    let asked = asked_of spread value in
    MatchOption side (least_gain network H u (with_target asked) ≡ None) (IsSide network H u asked (with_target asked))

-- the values of the variable, from the first
abbrev pub values_of : List Variable → SpreadAsked → List ℕ
values_of network spread = numbers_below (slice_index (sizes network) spread.variable)

-- for each value of the variable its side, in order
abbrev pub AreValueSides : List Variable → List Entry → ℕ → SpreadAsked → List (Option Side) → Type 0
AreValueSides network H u spread sides = AllZip (IsValueSide network H u spread) (values_of network spread) sides

-- the bounds are right for the sides of its values
pub record AreRightBoundsOf (network : List Variable) (H : List Entry) (u : ℕ) (spread : SpreadAsked) (intervals : Intervals) : Type 0 where
  pub sides : List (Option Side)
  pub are_sides : AreValueSides network H u spread sides
  pub right : AreRightBounds (IsSmall network H) sides intervals

-- the units are fair and solvent for these shares, one of each for a value
pub record IsFairList (network : List Variable) (H : List Entry) (u : ℕ) (spread : SpreadAsked) (Xs Fs : List ℕ) : Type 0 where
  pub sides : List (Option Side)
  pub are_sides : AreValueSides network H u spread sides
  pub units : AreFairUnits (IsSmall network H) sides Xs Fs

-- such units
abbrev pub HasFairList : List Variable → List Entry → ℕ → SpreadAsked → List ℕ → Type 0
HasFairList network H u spread Xs = (Fs : List ℕ) × IsFairList network H u spread Xs Fs

-- a value cannot come where the condition holds
abbrev pub value_cannot_come : List Variable → List Entry → SpreadAsked → ℕ → Bool
value_cannot_come network H spread value = cannot_come network H (with_target (asked_of spread value))

-- the values that can
abbrev pub values_left : List Variable → List Entry → SpreadAsked → List ℕ
values_left network H spread = filter (λ value. not (value_cannot_come network H spread value)) (values_of network spread)

-- a share for a value: nothing where it cannot come, and else 1 to 999,999 parts in a million
abbrev pub IsShareWhere : (impossible : Bool) → ℕ → Type 0
IsShareWhere true X = X ≡ 0
IsShareWhere false X = (1 ≤ X) × (X ≤ max_share)

-- one for each value
abbrev pub SuitValues : List Variable → List Entry → SpreadAsked → List ℕ → Type 0
SuitValues network H spread Xs = AllZip (λ value X. IsShareWhere (value_cannot_come network H spread value) X) (values_of network spread) Xs

-- a distribution in order: its variable and pairs are the network's, its condition gives no variable two values and its own variable
-- none, and no resolution gives that a value
pub record IsSpreadInOrder (network : List Variable) (H : List Entry) (spread : SpreadAsked) : Type 0 where
  pub in_range : IsSpreadOf network spread
  pub apart : AreApart spread.condition
  pub variable_apart : speaks_of spread.condition spread.variable ≡ false
  pub unresolved : speaks_of (resolutions H) spread.variable ≡ false

-- a distribution that can be asked about: it is in order, and two of its values can come where the condition holds
pub record CanBeSpread (network : List Variable) (H : List Entry) (spread : SpreadAsked) : Type 0 where
  pub in_order : IsSpreadInOrder network H spread
  pub two_left : 2 ≤ length (values_left network H spread)
