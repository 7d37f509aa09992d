-- How many changes of each kind a history may have, and its room.
use Rattle.std.specs.Prelude.{◌≡◌, ℕ, ◌+◌, ◌*◌, ◌<◌, ◌≤◌, List, length, map, All}
use Rattle.std.specs.List.{count_by}
use Rattle.mk_net.specs.Bounds.{max_variables, max_users, max_transfers, max_market_trades}
use Rattle.mk_net.specs.Bounds.{max_condition, max_values}
use Rattle.mk_exact.specs.History.{Entry, users, trades, resolutions, additions}
use Rattle.mk_exact.specs.History.{is_transfer, is_settlement}
use Rattle.mk_history.specs.Histories.{HistoryOf, max_additions}
use Rattle.mk_history.specs.declared.change.Change.{Change}
use Rattle.mk_history.specs.declared.change.Change.TheVariants.{Join, Deposit, Withdraw, Trade}
use Rattle.mk_history.specs.declared.change.Change.TheVariants.{Resolve, Settle, Add}
use Rattle.mk_history.specs.declared.history.Limits.{Limits}
use Rattle.mk_history.specs.inner.Kept.{Lists, entry_kept, IsKept}

-- there are no more changes of a kind than there may be
pub record IsWithin (H : List Entry) (limits : Limits) : Type 0 where
  pub few_users : length (users H) ≤ limits.users
  pub few_trades : length (trades H) ≤ limits.trades
  pub few_transfers : count_by is_transfer H ≤ limits.transfers
  pub few_additions : length (additions H) ≤ max_additions
  pub few_resolutions : length (resolutions H) ≤ max_variables
  pub one_settlement : count_by is_settlement H ≤ 1
  pub trades_at_most : limits.trades ≤ max_market_trades
  pub users_at_most : limits.users ≤ max_users
  pub transfers_at_most : limits.transfers ≤ max_transfers

-- the lists beside the changes are as long as these ask for
pub record AreMeasured (H : List Entry) (lists : Lists) : Type 0 where
  pub names : length lists.names ≡ length (users H)
  pub pairs : length lists.pairs ≤ max_condition * length (trades H)
  pub factors : length lists.factors ≤ max_values * length (trades H)
  pub additions : length lists.additions ≡ length (additions H)

-- changes as the history that they are
abbrev pub entries_kept : Lists → List Change → List Entry
entries_kept lists changes = map (entry_kept lists) changes

-- changes and the lists beside them are those of a market with these limits
pub record AreKept (lists : Lists) (changes : List Change) (limits : Limits) : Type 0 where
  pub kept : All (IsKept lists) changes
  pub within : IsWithin (entries_kept lists changes) limits
  pub measured : AreMeasured (entries_kept lists changes) lists

-- room for as much as there may be
pub record HasRoom (limits : Limits) (changes names pairs factors questions : ℕ) : Type 0 where
  pub for_changes :
      limits.trades + limits.transfers + limits.users + max_variables + max_additions + 1 ≤ changes
  pub for_names : limits.users ≤ names
  pub for_pairs : max_condition * limits.trades ≤ pairs
  pub for_factors : max_values * limits.trades ≤ factors
  pub for_questions : max_additions ≤ questions

-- there may be one change more of this kind, which names nothing in the lists
abbrev pub HasPlaceAlone : HistoryOf → Change → Type 0
HasPlaceAlone h (Deposit user bits) = count_by is_transfer h.history < h.max_transfers
HasPlaceAlone h (Withdraw user bits) = count_by is_transfer h.history < h.max_transfers
HasPlaceAlone h (Resolve pair) = length (resolutions h.history) < max_variables
HasPlaceAlone h (Join name) = ⊥
HasPlaceAlone h (Trade trade) = ⊥
HasPlaceAlone h Settle = ⊥
HasPlaceAlone h (Add question) = ⊥
