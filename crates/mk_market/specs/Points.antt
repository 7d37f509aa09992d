-- The accounts of a market's users, in points.
use Rattle.std.specs.Prelude.{◌≡◌, ℕ, ◌*◌, ◌<◌, ⊤, List, [], ◌∷◌, ◌++◌, map, length, slice_get, Some}
use Rattle.mk_net.specs.Bounds.{sharpness}
use Rattle.mk_states.specs.Events.{always}
use Rattle.mk_exact.specs.History.{Entry, Settle as Settles, users, deposited, withdrawn, payment_to}
use Rattle.mk_exact.specs.Weight.{IsSmall, possible_states}
use Rattle.mk_exact.specs.Factors.{HoldsNoTrade, factor}
use Rattle.mk_exact.specs.Cash.{CoversCash}
use Rattle.mk_exact.specs.Market.{Market}
use Rattle.mk_cash.specs.declared.ledger.Account.{Account}
use Rattle.mk_cash.specs.Accounts.{account_of}
use Rattle.mk_reply.specs.declared.payments.Payment.{Payment}
use Rattle.mk_reply.specs.declared.reply.Reply.{Reply}
use Rattle.mk_reply.specs.declared.reply.Reply.TheVariants.{Settled, SettledAll}
use Rattle.mk_command.specs.declared.command.Command.TheVariants.{Settle}
use Rattle.mk_rules.specs.Answers.{IsAllowed, ends_of}
use Rattle.mk_rules.specs.Quotes.{Quotes}

-- a user is paid off with the low end of an interval that covers the cash of the user's factor in the one possible state
pub record IsPaidOff (market : Market) (H : List Entry) (u points : ℕ) : Type 0 where
  pub state : List ℕ
  pub one_state : possible_states market.network H always ≡ state ∷ []
  pub high : ℕ
  pub covers : CoversCash (IsSmall market.network H) (HoldsNoTrade H u)
      (sharpness market.max_trades) (factor H u state) market.points_per_bit points high

-- a user's account: the points of the bits that went in and out, and what the settlement pays,
-- which is nothing before it
pub record IsAccount (market : Market) (H : List Entry) (u : ℕ) (account : Account) : Type 0 where
  pub paid_in : account.deposited ≡ market.points_per_bit * deposited H u
  pub taken_out : account.withdrawn ≡ market.points_per_bit * withdrawn H u
  pub paid_to : (account.paid ≡ (payment_to H u).0) × (account.high ≡ (payment_to H u).1)

-- one for each user
pub record AreAccounts (market : Market) (H : List Entry) (accounts : List Account) : Type 0 where
  pub one_each : length accounts ≡ length (users H)
  pub each : (u : ℕ) → u < length accounts → IsAccount market H u (account_of accounts u)

-- after a settlement that lists payments each user was paid what the user's payment prints; one that
-- lists none enters what the history says, by rule; and every other reply leaves what users were paid
abbrev pub ArePaidBy : Reply → List Account → List Account → Type 0
ArePaidBy (Settled at payments) old new = (u : ℕ) (payment : Payment)
    → slice_get payments u ≡ Some payment → (account_of new u).paid ≡ payment.paid
ArePaidBy (SettledAll at joined total) old new = ⊤
ArePaidBy _ old new = (u : ℕ) → (account_of new u).paid ≡ (account_of old u).paid

-- by an allowed settlement that is entered each user is paid off
abbrev pub SettlementPaysOff : Type 0
SettlementPaysOff =
    (market : Market) (H : List Entry) (quotes : Quotes) (old new : List Account)
    (at : ℕ) (payments : List Payment)
    → IsAllowed market H quotes Settle (Settled at payments)
    → ArePaidBy (Settled at payments) old new
    → (u : ℕ) → u < length (users H)
    → IsPaidOff market (H ++ Settles (map ends_of payments) ∷ []) u (account_of new u).paid
