-- What a market in use is to its callers, and how it answers a command.
use Rattle.std.specs.Prelude.{◌≡◌, ℕ, ⊤, List, length, slice_get, Option, Some, None}
use Rattle.mk_exact.specs.History.{users}
use Rattle.mk_exact.specs.Market.{Market, present}
use Rattle.mk_exact.specs.Sound.{IsSound}
use Rattle.mk_cash.specs.declared.ledger.Account.{Account}
use Rattle.mk_command.specs.declared.command.Command.{Command}
use Rattle.mk_command.specs.declared.command.Command.TheVariants.{Deposit, Withdraw, Limits, Edit}
use Rattle.mk_command.specs.declared.command.Command.TheVariants.{Bounds, Spread, Worst, Paid}
use Rattle.mk_command.specs.declared.command.Command.TheVariants.{Position, Add}
use Rattle.mk_reply.specs.declared.reply.Reply.{Reply}
use Rattle.mk_rules.specs.Transcript.{Standing, OfCommand, IsAllowedFor, after, market_after}
use Rattle.mk_market.specs.Points.{ArePaidBy}

-- a market as it stands, what its lines and replies have given so far, and of its users, in the
-- order of joining, the accounts and what they own
pub record Trading (Own : Type 0) : Type 0 where
  pub market : Market
  pub standing : Standing
  pub accounts : List Account
  pub assets : List Own

-- the user whom a command names; who joins is none yet
abbrev pub named_user : Command → Option (List ℕ)
named_user (Deposit user bits) = Some user
named_user (Withdraw user bits) = Some user
named_user (Limits user question) = Some user
named_user (Edit user question to at) = Some user
named_user (Bounds user variable condition) = Some user
named_user (Spread user variable condition to at) = Some user
named_user (Worst user) = Some user
named_user (Paid user) = Some user
named_user (Position user variable condition) = Some user
named_user _ = None

module _ {Own : Type 0} where
  -- it is the market of a file with what its history added
  abbrev pub IsAt : Market → Trading Own → Type 0
  IsAt start trading = trading.market ≡ present start trading.standing.history

  -- each user whom a command does not name owns what the user owned
  abbrev pub AreOthersLeft : Trading Own → Trading Own → Command → Type 0
  AreOthersLeft old new command = (u : ℕ) (name : List ℕ)
      → slice_get (users old.standing.history) u ≡ Some name → (named_user command ≡ Some name → ⊥)
      → slice_get new.assets u ≡ slice_get old.assets u

  -- a question that is added makes what each user owns anew, in the longer network; every other
  -- command leaves the others apart
  abbrev pub LeavesOthers : Trading Own → Trading Own → Command → Type 0
  LeavesOthers old new (Add addition) = ⊤
  LeavesOthers old new command = AreOthersLeft old new command

  -- a command is answered by a reply that is allowed where the history before it is sound; whether
  -- it is or not, the market and its standing move on by the reply, and so does what users were
  -- paid; each user owns something, and the command touches what the user owns whom it names
  pub record IsAnswered (old new : Trading Own) (command : Command) (reply : Reply) : Type 0 where
    pub market : new.market ≡ market_after old.market old.standing (OfCommand command) reply
    pub allowed : IsSound old.market.network old.standing.history
        → IsAllowedFor old.market old.standing (OfCommand command) reply
    pub next : new.standing ≡ after old.market old.standing (OfCommand command) reply
    pub paid : ArePaidBy reply old.accounts new.accounts
    pub one_each : length new.assets ≡ length (users new.standing.history)
    pub others : LeavesOthers old new command

  -- a market that was asked stands as it stood; what its users own may have learnt what is known
  pub record IsOnlyAsked (old new : Trading Own) : Type 0 where
    pub market : new.market ≡ old.market
    pub standing : new.standing ≡ old.standing
    pub accounts : new.accounts ≡ old.accounts
