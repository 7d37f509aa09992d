-- What a market tells of every value of a variable, and of itself.
use Rattle.std.specs.Prelude.{◌≡◌, ℕ, List, length, not, Option}
use Rattle.std.specs.List.{count_by}
use Rattle.arrayvec.specs.ArrayVec.{ArrayVec}
use Rattle.mk_net.specs.Network.{Variable}
use Rattle.mk_states.specs.States.{numbers_below}
use Rattle.mk_exact.specs.History.{Entry, users, trades, is_transfer, revision}
use Rattle.mk_exact.specs.Market.{Market}
use Rattle.mk_spread.specs.Spreads.{SpreadAsked}
use Rattle.mk_spread.specs.Told.{ArePricesOf, IsPositionOf}
use Rattle.mk_reply.specs.declared.reply.Reply.{Reply}
use Rattle.mk_reply.specs.declared.reply.Reply.TheVariants.{Prices, Position, Status}
use Rattle.mk_rules.specs.Refusals.{is_resolved}

-- for each value of a variable, an interval that covers its exact price
pub record ArePrices (network : List Variable) (H : List Entry) (most_trades : ℕ)
    (spread : SpreadAsked) (reply : Reply) : Type 0 where
  pub intervals : ArrayVec (ℕ × ℕ)
  pub printed : reply ≡ Prices intervals
  pub covers : ArePricesOf network H most_trades spread intervals.items

-- for each value of a variable, an interval that covers what a user is paid at least where it comes
pub record IsPosition (network : List Variable) (H : List Entry) (most_trades u points_per_bit : ℕ)
    (spread : SpreadAsked) (reply : Reply) : Type 0 where
  pub intervals : ArrayVec (Option (ℕ × ℕ))
  pub printed : reply ≡ Position intervals
  pub covers : IsPositionOf network H most_trades u points_per_bit spread intervals.items

-- how many variables no resolution gave a value
abbrev pub open_count : List Variable → List Entry → ℕ
open_count network H = count_by (λ v. not (is_resolved H v)) (numbers_below (length network))

-- how far a market is, and how full
abbrev pub status_of : Market → List Entry → Reply
status_of market H =
    let network = market.network in
    Status (revision H) (length (users H)) (length (trades H)) market.max_trades
    (count_by is_transfer H) market.max_transfers (open_count network H) (length network)
