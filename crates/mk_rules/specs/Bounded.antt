-- What an allowed history keeps of its users and its numbers, where the lines are texts.
use Rattle.std.specs.Prelude.{ℕ, ◌<◌, ◌≤◌, ⊤, List, length}
use Rattle.std.specs.List.{AllByRecursion, count_by}
use Rattle.mk_net.specs.Bounds.{max_transfer_bits, number_limit}
use Rattle.mk_names.specs.Name.{IsName}
use Rattle.mk_net.specs.Network.{AreDistinct}
use Rattle.mk_exact.specs.History.{Entry, Join, Deposit, Withdraw, Trade, Resolve, Settle, Add, users, trades, is_transfer, is_settlement, payments}
use Rattle.mk_exact.specs.Market.{Market}
use Rattle.mk_exact.specs.Existing.{IsWithinBounds}
use Rattle.mk_command.specs.Commands.{IsCommand}
use Rattle.mk_command.specs.declared.command.Command.TheVariants.{User}
use Rattle.mk_rules.specs.Transcript.{Line, OfCommand, NoCommand, LongLine}

-- a line that is a text gives a command that has one
abbrev pub IsLine : Line → Type 0
IsLine (OfCommand command) = IsCommand command
IsLine NoCommand = ⊤
IsLine LongLine = ⊤

-- a user who joins has a name
abbrev pub JoinsByName : Line → Type 0
JoinsByName (OfCommand (User u)) = IsName u
JoinsByName _ = ⊤

-- 1 to 1,000 bits, by a user who joined
pub record IsTransferOf (joined u bits : ℕ) : Type 0 where
  pub user : u < joined
  pub some : 1 ≤ bits
  pub few : bits ≤ max_transfer_bits

-- an entry that is a transfer is one
abbrev pub FitsTransfer : ℕ → Entry → Type 0
FitsTransfer joined (Join name) = ⊤
FitsTransfer joined (Deposit user bits) = IsTransferOf joined user bits
FitsTransfer joined (Withdraw user bits) = IsTransferOf joined user bits
FitsTransfer joined (Trade user ratio) = ⊤
FitsTransfer joined (Resolve pair) = ⊤
FitsTransfer joined (Settle payments) = ⊤
FitsTransfer joined (Add addition) = ⊤

-- two ends of a payment that can be printed
pub record FitPayment (payment : ℕ × ℕ) : Type 0 where
  pub low : payment.0 < number_limit
  pub high : payment.1 < number_limit

-- as many users, trades and transfers as the market takes, each user with a name of its own; transfers of 1 to 1,000 bits by users
-- who joined; at most one settlement, of payments that can be printed
pub record IsBounded (market : Market) (H : List Entry) : Type 0 where
  pub within : IsWithinBounds H
  pub few_users : length (users H) ≤ market.max_users
  pub users_named : AllByRecursion IsName (users H)
  pub users_distinct : AreDistinct (users H)
  pub few_trades : length (trades H) ≤ market.max_trades
  pub few_transfers : count_by is_transfer H ≤ market.max_transfers
  pub transfers_fit : AllByRecursion (FitsTransfer (length (users H))) H
  pub settled_once : count_by is_settlement H ≤ 1
  pub payments_fit : AllByRecursion FitPayment (payments H)
