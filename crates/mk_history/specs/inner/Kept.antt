-- How a history is kept: small changes, and beside them the lists of what they name.
use Rattle.std.specs.Prelude.{◌≡◌, ℕ, ◌+◌, ◌<◌, ◌≤◌, ⊤, List, [], length, false, All, get_or}
use Rattle.std.specs.Prelude.{slice_range}
use Rattle.mk_net.specs.declared.words.Pair.{Pair}
use Rattle.mk_net.specs.Asked.{TradeRatio, IsUnits}
use Rattle.mk_net.specs.Bounds.{max_condition, max_values}
use Rattle.mk_net.specs.Events.{speaks_of, AreApart}
use Rattle.mk_exact.specs.History as history
use Rattle.mk_history.specs.declared.change.Change.{Change}
use Rattle.mk_history.specs.declared.change.Change.TheVariants.{Join, Deposit, Withdraw, Trade}
use Rattle.mk_history.specs.declared.change.Change.TheVariants.{Resolve}
use Rattle.mk_history.specs.declared.change.Change.TheVariants.{Settle, Add}
use Rattle.mk_history.specs.declared.change.KeptTrade.{KeptTrade}

-- what changes name: names of users, pairs and factors of all trades, the payments of the
-- settlement, and questions
pub record Lists : Type 0 where
  pub names : List (List ℕ)
  pub pairs : List Pair
  pub factors : List ℕ
  pub payments : List (ℕ × ℕ)
  pub additions : List history.Addition

abbrev pub no_addition : history.Addition
no_addition = record {
  variable = record { name = []; values = []; parents = []; rows = [] };
  clique = [];
  link = 0;
}

-- the ratio of a trade, from the pairs and the factors of all
abbrev pub ratio_kept : List Pair → List ℕ → KeptTrade → TradeRatio
ratio_kept pairs factors trade = record {
  variable = trade.variable;
  condition = slice_range pairs trade.first_pair (trade.first_pair + trade.pairs);
  factors = slice_range factors trade.first_factor (trade.first_factor + trade.factors);
}

-- a kept change as the change that it is
abbrev pub entry_kept : Lists → Change → history.Entry
entry_kept lists (Join name) = history.Join (get_or lists.names name [])
entry_kept lists (Deposit user bits) = history.Deposit user bits
entry_kept lists (Withdraw user bits) = history.Withdraw user bits
entry_kept lists (Trade trade) =
    history.Trade trade.user (ratio_kept lists.pairs lists.factors trade)
entry_kept lists (Resolve pair) = history.Resolve pair
entry_kept lists Settle = history.Settle lists.payments
entry_kept lists (Add question) = history.Add (get_or lists.additions question no_addition)

-- the same without the lists, for a change that names nothing there
abbrev pub alone : Change → history.Entry
alone (Deposit user bits) = history.Deposit user bits
alone (Withdraw user bits) = history.Withdraw user bits
alone (Resolve pair) = history.Resolve pair
alone (Join name) = history.Join []
alone (Trade trade) = history.Settle []
alone Settle = history.Settle []
alone (Add question) = history.Add no_addition

-- a condition, a variable and factors as those of a trade
pub record IsRatio (ratio : TradeRatio) : Type 0 where
  pub few_pairs : length ratio.condition ≤ max_condition
  pub apart : AreApart ratio.condition
  pub target_apart : speaks_of ratio.condition ratio.variable ≡ false
  pub two_factors : 2 ≤ length ratio.factors
  pub few_factors : length ratio.factors ≤ max_values
  pub are_units : All IsUnits ratio.factors

-- the parts of a trade are there, and are those of a trade
pub record IsKeptTrade (pairs : List Pair) (factors : List ℕ) (trade : KeptTrade) : Type 0 where
  pub pairs_there : trade.first_pair + trade.pairs ≤ length pairs
  pub factors_there : trade.first_factor + trade.factors ≤ length factors
  pub ratio : IsRatio (ratio_kept pairs factors trade)

-- what a change names is there
abbrev pub IsKept : Lists → Change → Type 0
IsKept lists (Join name) = name < length lists.names
IsKept lists (Trade trade) = IsKeptTrade lists.pairs lists.factors trade
IsKept lists (Add question) = question < length lists.additions
IsKept lists (Deposit user bits) = ⊤
IsKept lists (Withdraw user bits) = ⊤
IsKept lists (Resolve pair) = ⊤
IsKept lists Settle = ⊤
