-- What payments leave of a ledger.
use Rattle.std.specs.Prelude.{◌≡◌, ℕ, ◌+◌, ◌<◌, ◌≤◌, List, [], ◌∷◌, ◌++◌, length, slice_get, false}
use Rattle.std.specs.List.{AllByRecursion}
use Rattle.mk_net.specs.Bounds.{max_users}
use Rattle.mk_exact.specs.History.{Entry, Settle, is_settled, or_nothing}
use Rattle.mk_rules.specs.Bounded.{FitPayment}
use Rattle.mk_cash.specs.declared.ledger.Account.{Account}
use Rattle.mk_cash.specs.Accounts.{account_of, LedgerOf}
use Rattle.mk_record.specs.Journals.{JournalOf}

-- an account behind one payment: its low end more was paid, and its high end is known
pub record IsPaid (old new : Account) (payment : ℕ × ℕ) : Type 0 where
  pub paid : new.paid ≡ old.paid + payment.0
  pub high : new.high ≡ payment.1
  pub paid_in : new.deposited ≡ old.deposited
  pub taken_out : new.withdrawn ≡ old.withdrawn

-- as many accounts, each behind its payment
pub record ArePaid (old new : List Account) (paid : List (ℕ × ℕ)) : Type 0 where
  pub count : length new ≡ length old
  pub each : (u : ℕ) → u < length old
      → IsPaid (account_of old u) (account_of new u) (or_nothing (slice_get paid u))

-- nothing was settled or paid, and there is one payment for each account, which can be printed
pub record CanBeEntered (H : List Entry) (accounts : List Account) (paid : List (ℕ × ℕ)) : Type 0
  where
    pub unsettled : is_settled H ≡ false
    pub one_each : length paid ≡ length accounts
    pub few : length paid ≤ max_users
    pub unpaid : (u : ℕ) → u < length accounts → (account_of accounts u).paid ≡ 0
    pub fit : AllByRecursion FitPayment paid

-- each account is behind its payment, and the journal has the settlement
pub record IsEntered (ledger new_ledger : LedgerOf) (journal new_journal : JournalOf)
    (paid : List (ℕ × ℕ)) : Type 0 where
  pub history : new_journal.history ≡ journal.history ++ Settle paid ∷ []
  pub trades : new_journal.max_trades ≡ journal.max_trades
  pub users : new_journal.max_users ≡ journal.max_users
  pub transfers : new_journal.max_transfers ≡ journal.max_transfers
  pub paid_each : ArePaid ledger.accounts new_ledger.accounts paid
  pub room : new_ledger.room ≡ ledger.room
