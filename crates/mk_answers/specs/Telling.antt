-- What is told of every value of a variable, and what the calls for it ask.
use Rattle.std.specs.Prelude.{◌≡◌, ℕ, List, Option, Some, None, true, false}
use Rattle.std.specs.Prelude.{MatchOption}
use Rattle.arrayvec.specs.ArrayVec.{ArrayVec}
use Rattle.mk_net.specs.Asked.{Asked}
use Rattle.mk_net.specs.Events.{pairs_asked}
use Rattle.mk_net.specs.Network.{Variable}
use Rattle.mk_states.specs.Events.{holds, with_target}
use Rattle.mk_exact.specs.Factors.{least_gain}
use Rattle.mk_exact.specs.History.{Entry}
use Rattle.mk_exact.specs.Sound.{IsSound}
use Rattle.mk_exact.specs.Weight.{cannot_come}
use Rattle.mk_spread.specs.Spreads.{SpreadAsked, asked_of}
use Rattle.mk_spread.specs.Told.{ArePricesOf, CoversLeast, IsPositionOf}
use Rattle.mk_tree.specs.Given.{GivenTree}
use Rattle.mk_tree.specs.Held.{IsHeldAt}
use Rattle.mk_engine.specs.Meaning.{Meaning}
use Rattle.mk_beliefs.specs.Meanings.{weights_of}
use Rattle.mk_assets.specs.declared.assets.Assets.{Assets}
use Rattle.mk_assets.specs.Holdings.{Owns}
use Rattle.mk_answers.specs.Open.{IsOpen, CanBeSpreadHere, holding_of}

-- intervals that cover the price of each value where the condition can come, as sharply as a market
-- of so many trades does, and none where it cannot
abbrev pub ArePricesFor :
    List Variable → List Entry → ℕ → SpreadAsked → Option (ArrayVec (ℕ × ℕ)) → Type 0
ArePricesFor network H most_trades spread None =
    cannot_come network H (holds spread.condition) ≡ true
ArePricesFor network H most_trades spread (Some intervals) =
    (cannot_come network H (holds spread.condition) ≡ false)
    × ArePricesOf network H most_trades spread intervals.items

-- the same of what a user is sure of, where the history is sound
abbrev pub IsPositionFor :
    List Variable → List Entry → ℕ → ℕ → ℕ → SpreadAsked → Option (ArrayVec (Option (ℕ × ℕ)))
    → Type 0
IsPositionFor network H most_trades u points_per_bit spread None =
    cannot_come network H (holds spread.condition) ≡ true
IsPositionFor network H most_trades u points_per_bit spread (Some intervals) =
    (cannot_come network H (holds spread.condition) ≡ false)
    × (IsSound network H
    → IsPositionOf network H most_trades u points_per_bit spread intervals.items)

-- the cash of a user's least factor where a question's target comes, or none where it cannot
abbrev pub IsSureAt :
    List Variable → List Entry → ℕ → ℕ → ℕ → Asked → Option (ℕ × ℕ) → Type 0
IsSureAt network H most_trades u points_per_bit asked interval =
    MatchOption interval (least_gain network H u (with_target asked) ≡ None)
    (CoversLeast network H most_trades u points_per_bit (with_target asked))

-- the engine has the weights of a market in use of this network, where the question about every
-- value can be answered, and a clique holds it
pub record CanTellPrices {E : Type 0} (stands_for : E → Meaning → Type 0) (prices : E)
    (network : List Variable) (at : ℕ) (spread : SpreadAsked) : Type 0 where
  pub tree : GivenTree
  pub history : List Entry
  pub stands : stands_for prices (weights_of network tree history)
  pub is_open : IsOpen network tree history
  pub answered : CanBeSpreadHere network tree history spread
  pub held : (value : ℕ) → IsHeldAt tree at (pairs_asked (asked_of spread value))

-- the assets are a user's of such a market
pub record CanTellPosition {A P : Type 0} (owned_for : A → Meaning → Type 0) (assets : Assets A P)
    (network : List Variable) (at : ℕ) (spread : SpreadAsked) : Type 0 where
  pub tree : GivenTree
  pub history : List Entry
  pub user : ℕ
  pub owns : Owns owned_for assets (holding_of network tree history user)
  pub is_open : IsOpen network tree history
  pub answered : CanBeSpreadHere network tree history spread
  pub held : (value : ℕ) → IsHeldAt tree at (pairs_asked (asked_of spread value))
