-- The accounts of a ledger, by the numbers of their users.
use Rattle.std.specs.Prelude.{ℕ, List, slice_index_or}
use Rattle.mk_cash.specs.declared.ledger.Account.{Account}

-- a ledger: the accounts, and for how many there is room
pub record LedgerOf : Type 0 where
  pub accounts : List Account
  pub room : ℕ

-- the account of a user who has just joined
abbrev pub empty_account : Account
empty_account = record { deposited = 0; withdrawn = 0; paid = 0; high = 0 }

abbrev pub account_of : List Account → ℕ → Account
account_of accounts user = slice_index_or accounts user empty_account
