-- What a history is to its callers.
use Rattle.std.specs.Prelude.{ℕ, ◌-◌, List}
use Rattle.mk_net.specs.Bounds.{max_variables}
use Rattle.mk_exact.specs.History.{Entry}

-- the accepted changes in order, and the most trades, users and transfers among them
pub record HistoryOf : Type 0 where
  pub history : List Entry
  pub max_trades : ℕ
  pub max_users : ℕ
  pub max_transfers : ℕ

-- questions that are added to a market: one variable at least is there when it opens
abbrev pub max_additions : ℕ
max_additions = max_variables - 1
