-- What is found of a question in a market in use: its price, its two sides, or why there are none.
use Rattle.std.specs.Prelude.{◌≡◌, ℕ, ◌+◌, ◌≤◌, List, [], ◌∷◌, ◌++◌, length, true, false, if◌then◌else◌, Option, Some, None, IsNone, IfSome, option_map, ◌↔◌}
use Rattle.mk_net.specs.declared.words.Pair.{Pair}
use Rattle.mk_net.specs.Asked.{Asked}
use Rattle.mk_net.specs.Bounds.{sharpness}
use Rattle.mk_net.specs.Network.{Variable}
use Rattle.mk_states.specs.Events.{holds, with_target, without_target}
use Rattle.mk_exact.specs.History.{Entry}
use Rattle.mk_exact.specs.Limits.{Side}
use Rattle.mk_exact.specs.Prices.{CoversPrice, exact_price}
use Rattle.mk_exact.specs.Sides.{AreSides}
use Rattle.mk_exact.specs.Weight.{IsSmall, cannot_come}
use Rattle.mk_spread.specs.Spreads.{SpreadAsked}
use Rattle.mk_spread.specs.Markets.{AreValueSides, values_left}
use Rattle.mk_quote.specs.Values.{sides_in}
use Rattle.mk_answers.specs.declared.edit.Sides.{Sides}
use Rattle.mk_answers.specs.declared.edit.Sides.TheVariants.{Open, Impossible, Never, Sure}
use Rattle.mk_answers.specs.declared.spread.SpreadSides.{SpreadSides}
use Rattle.mk_answers.specs.declared.spread.SpreadSides.TheVariants.{Open as OpenSpread, Impossible as ImpossibleSpread, Sure as SureSpread}
use Rattle.mk_answers.specs.Open.{AreBoundsFor, AreSideBoundsFor}

-- an interval that covers the exact price, as sharply as a market of so many trades does, or none
-- where the condition cannot come
pub record IsPriceFor (network : List Variable) (H : List Entry) (most_trades : ℕ) (asked : Asked)
    (found : Option (ℕ × ℕ)) : Type 0 where
  pub none : IsNone found ↔ (cannot_come network H (holds asked.condition) ≡ true)
  pub covers : IfSome found
      (λ (price : ℕ × ℕ). CoversPrice (IsSmall network H) (sharpness most_trades)
      (exact_price network H asked) price.0 price.1)

-- the place, from 0, of the first pair of a list with which, beside some pairs and those before it, no possible state is left
abbrev pub first_impossible : List Variable → List Entry → List Pair → List Pair → Option ℕ
first_impossible network H held [] = None
first_impossible network H held (p ∷ ps) =
    if cannot_come network H (holds (held ++ p ∷ [])) then Some 0 else option_map (λ k. k + 1) (first_impossible network H (held ++ p ∷ []) ps)

-- where its condition holds, the target of a question can come, and so can something else
pub record AreBothLeft (network : List Variable) (H : List Entry) (asked : Asked) : Type 0 where
  pub hit : cannot_come network H (with_target asked) ≡ false
  pub miss : cannot_come network H (without_target asked) ≡ false

-- the bounds of both sides for a user, where both can come, or which cannot
abbrev pub AreSidesFor : List Variable → List Entry → ℕ → Asked → Sides → Type 0
AreSidesFor network H u asked (Open bounds) =
    AreBothLeft network H asked × ((hit miss : Side) → AreSides network H u asked hit miss → AreBoundsFor bounds (IsSmall network H) hit miss)
AreSidesFor network H u asked Impossible = cannot_come network H (holds asked.condition) ≡ true
AreSidesFor network H u asked Never = (cannot_come network H (holds asked.condition) ≡ false) × (cannot_come network H (with_target asked) ≡ true)
AreSidesFor network H u asked Sure = (cannot_come network H (with_target asked) ≡ false) × (cannot_come network H (without_target asked) ≡ true)

-- the bounds of each value for a user, where two can come, or the one that alone can
abbrev pub AreSpreadSidesFor : List Variable → List Entry → ℕ → SpreadAsked → SpreadSides → Type 0
AreSpreadSidesFor network H u spread (OpenSpread bounds) =
    (2 ≤ length (values_left network H spread))
    × ((sides : List (Option Side)) → AreValueSides network H u spread sides → AreSideBoundsFor (sides_in bounds) (IsSmall network H) sides)
AreSpreadSidesFor network H u spread ImpossibleSpread = cannot_come network H (holds spread.condition) ≡ true
AreSpreadSidesFor network H u spread (SureSpread value) = values_left network H spread ≡ value ∷ []
