-- What a journal counts, its limits and its room.
use Rattle.std.specs.Prelude.{◌≡◌, ℕ, ◌≤◌, List, Bool, length}
use Rattle.std.specs.List.{count_by}
use Rattle.mk_net.specs.declared.words.Pair.{Pair}
use Rattle.mk_net.specs.Bounds.{max_variables, max_users, max_transfers, max_market_trades}
use Rattle.mk_exact.specs.History.{Entry, users, trades, resolutions, additions}
use Rattle.mk_exact.specs.History.{is_transfer, is_settled}
use Rattle.mk_history.specs.Histories.{HistoryOf, max_additions}
use Rattle.mk_history.specs.declared.history.Limits.{Limits}

-- how many there are of each thing, within the limits of a market
pub record AreFew (limits : Limits) (known joined traded moved added : ℕ) : Type 0 where
  pub few_known : known ≤ max_variables
  pub few_users : joined ≤ limits.users
  pub few_trades : traded ≤ limits.trades
  pub few_transfers : moved ≤ limits.transfers
  pub few_additions : added ≤ max_additions

-- the limits of a market, within those of all markets
pub record AreWithin (limits : Limits) : Type 0 where
  pub trades_at_most : limits.trades ≤ max_market_trades
  pub users_at_most : limits.users ≤ max_users
  pub transfers_at_most : limits.transfers ≤ max_transfers

-- each entry of a history is counted under one head, and each head is within its limit
pub record IsCounted (H : List Entry) (limits : Limits) (known : List Pair)
    (joined traded moved added : ℕ) (settled : Bool) : Type 0 where
  pub known_pairs : known ≡ resolutions H
  pub users_joined : joined ≡ length (users H)
  pub trades_made : traded ≡ length (trades H)
  pub transfers_made : moved ≡ count_by is_transfer H
  pub additions_made : added ≡ length (additions H)
  pub settlement : settled ≡ is_settled H
  pub few : AreFew limits (length known) joined traded moved added
  pub within : AreWithin limits

-- the changes are those of a market with these limits
pub record HasLimits (accepted : HistoryOf) (limits : Limits) : Type 0 where
  pub same_trades : accepted.max_trades ≡ limits.trades
  pub same_users : accepted.max_users ≡ limits.users
  pub same_transfers : accepted.max_transfers ≡ limits.transfers

-- room for as many known pairs as there may be
pub record HasRoom (known : ℕ) : Type 0 where
  pub for_known : max_variables ≤ known
