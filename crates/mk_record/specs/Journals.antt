-- What a journal is to its callers.
use Rattle.std.specs.Prelude.{ℕ, List}
use Rattle.mk_exact.specs.History.{Entry}

-- the accepted changes in order, and the most trades, users and transfers among them
pub record JournalOf : Type 0 where
  pub history : List Entry
  pub max_trades : ℕ
  pub max_users : ℕ
  pub max_transfers : ℕ
