-- What is told of every value of a variable: its price, and what a user is paid at least where it
-- comes.
use Rattle.std.specs.Prelude.{◌≡◌, ℕ, ◌<◌, ◌≤◌, ◌^◌, List, length, Bool, All}
use Rattle.std.specs.Prelude.{Option, None, IfSome, IsSomeAnd, MatchOption, sum_by}
use Rattle.std.specs.List.{AllZip}
use Rattle.mk_net.specs.Bounds.{million, number_limit, sharpness}
use Rattle.mk_net.specs.Network.{Variable, IsNetwork}
use Rattle.mk_states.specs.Events.{holds, with_target}
use Rattle.mk_exact.specs.History.{Entry}
use Rattle.mk_exact.specs.Weight.{IsSmall, possible_states}
use Rattle.mk_exact.specs.Factors.{factor_with, least_gain, HoldsNoTrade}
use Rattle.mk_exact.specs.Prices.{CoversPrice, exact_price}
use Rattle.mk_exact.specs.Cash.{CoversCash}
use Rattle.mk_exact.specs.Sound.{IsSound}
use Rattle.mk_exact.specs.Proper.{IsProper}
use Rattle.mk_exact.specs.Existing.{IsWithinBounds}
use Rattle.mk_spread.specs.Spreads.{SpreadAsked, asked_of}
use Rattle.mk_spread.specs.Markets.{values_of, IsSpreadInOrder}
use Rattle.mk_spread.specs.Laws.{AreOfValues}

-- a distribution that can be told: it is in order, and in some possible state its condition holds
pub record CanBeTold (network : List Variable) (H : List Entry) (asked : SpreadAsked) : Type 0 where
  pub in_order : IsSpreadInOrder network H asked
  pub some_state : 1 ≤ length (possible_states network H (holds asked.condition))

-- two ends cover the exact price of a value, in a market of so many trades
abbrev pub CoversValue : List Variable → List Entry → ℕ → SpreadAsked → ℕ → ℕ × ℕ → Type 0
CoversValue network H most_trades spread value ends =
    CoversPrice (IsSmall network H) (sharpness most_trades)
    (exact_price network H (asked_of spread value)) ends.0 ends.1

-- for each value of the variable, in order
abbrev pub ArePricesOf : List Variable → List Entry → ℕ → SpreadAsked → List (ℕ × ℕ) → Type 0
ArePricesOf network H most_trades spread intervals =
    AllZip (CoversValue network H most_trades spread) (values_of network spread) intervals

-- two ends cover the cash of a user's least factor over the possible states that pass a test, of
-- which there are some
abbrev pub CoversLeast : List Variable → List Entry → ℕ → ℕ → ℕ → (List ℕ → Bool) → ℕ × ℕ → Type 0
CoversLeast network H most_trades u points_per_bit test ends =
    IsSomeAnd (least_gain network H u test)
    (λ g. CoversCash (IsSmall network H) (HoldsNoTrade H u) (sharpness most_trades)
    (factor_with H u g) points_per_bit ends.0 ends.1)

-- where a value comes: none where it cannot
abbrev pub IsSureOf :
    List Variable → List Entry → ℕ → ℕ → ℕ → SpreadAsked → ℕ → Option (ℕ × ℕ) → Type 0
IsSureOf network H most_trades u points_per_bit spread value interval =
    let comes = with_target (asked_of spread value) in
    MatchOption interval (least_gain network H u comes ≡ None)
    (CoversLeast network H most_trades u points_per_bit comes)

-- for each value of the variable, in order
abbrev pub IsPositionOf :
    List Variable → List Entry → ℕ → ℕ → ℕ → SpreadAsked → List (Option (ℕ × ℕ)) → Type 0
IsPositionOf network H most_trades u points_per_bit spread intervals =
    AllZip (IsSureOf network H most_trades u points_per_bit spread) (values_of network spread)
    intervals

-- each distribution that can be told has prices
abbrev pub PricesExist : Type 0
PricesExist = (network : List Variable) (H : List Entry) (most_trades : ℕ) (spread : SpreadAsked)
    → IsNetwork network → IsProper network H → CanBeTold network H spread
    → (intervals : List (ℕ × ℕ)) × ArePricesOf network H most_trades spread intervals

-- and in a sound market each user has a position in every one
abbrev pub PositionExists : Type 0
PositionExists =
    (network : List Variable) (H : List Entry) (most_trades u b : ℕ) (spread : SpreadAsked)
    → IsSound network H
    → (intervals : List (Option (ℕ × ℕ))) × IsPositionOf network H most_trades u b spread intervals

-- ends of prices
abbrev pub AreUnits : ℕ × ℕ → Type 0
AreUnits ends = (ends.0 ≤ 10 ^ 10) × (ends.1 ≤ 10 ^ 10)

-- prices are 2 to 16 intervals within 0 to one
abbrev pub PricesFit : Type 0
PricesFit = (network : List Variable) (H : List Entry) (most_trades : ℕ) (spread : SpreadAsked)
    (intervals : List (ℕ × ℕ))
    → IsNetwork network → IsProper network H → CanBeTold network H spread
    → ArePricesOf network H most_trades spread intervals
    → AreOfValues intervals × All AreUnits intervals

-- two numbers that fit, or none
abbrev pub AreNumbers : Option (ℕ × ℕ) → Type 0
AreNumbers interval = IfSome interval (λ ends. (ends.0 < number_limit) × (ends.1 < number_limit))

-- within the bounds a position is 2 to 16 intervals whose ends fit, at up to a million points per
-- bit
abbrev pub PositionFits : Type 0
PositionFits =
    (network : List Variable) (H : List Entry) (most_trades u b : ℕ) (spread : SpreadAsked)
    (intervals : List (Option (ℕ × ℕ)))
    → IsNetwork network → spread.variable < length network → IsWithinBounds H → b ≤ million
    → IsPositionOf network H most_trades u b spread intervals
    → AreOfValues intervals × All AreNumbers intervals

-- the prices of all values are one together: so the low ends are at most that, and the high ends at
-- least
pub record MakeOne (intervals : List (ℕ × ℕ)) : Type 0 where
  pub low : sum_by (λ ends. ends.0) intervals ≤ 10 ^ 10
  pub high : 10 ^ 10 ≤ sum_by (λ ends. ends.1) intervals

abbrev pub PricesMakeOne : Type 0
PricesMakeOne = (network : List Variable) (H : List Entry) (most_trades : ℕ) (spread : SpreadAsked)
    (intervals : List (ℕ × ℕ))
    → IsNetwork network → IsProper network H → CanBeTold network H spread
    → ArePricesOf network H most_trades spread intervals
    → MakeOne intervals
