-- The changes that a market takes back after a restart, and the history that they give.
use Rattle.std.specs.Prelude.{◌≡◌, ℕ, ◌+◌, ◌<◌, ◌≤◌, List, [], ◌∷◌, ◌++◌, length, map, Option, Some, None}
use Rattle.arrayvec.specs.ArrayVec.{ArrayVec}
use Rattle.mk_net.specs.Bounds.{max_payments}
use Rattle.mk_net.specs.Firsts.{first_of}
use Rattle.mk_exact.specs.History.{Entry, users, revision}
use Rattle.mk_exact.specs.Market.{Market, present}
use Rattle.mk_command.specs.declared.command.Command.{Command}
use Rattle.mk_command.specs.declared.command.Command.TheVariants.{User, Deposit, Withdraw, Edit}
use Rattle.mk_command.specs.declared.command.Command.TheVariants.{Spread, Resolve, Settle, Add}
use Rattle.mk_addition.specs.Adds.{IsAddText}
use Rattle.mk_command.specs.Commands.{IsCommand, command_text}
use Rattle.mk_reply.specs.declared.payments.Payment.{Payment}
use Rattle.mk_reply.specs.declared.refusal.Refusal.{Refusal}
use Rattle.mk_reply.specs.declared.reply.Reply.{Reply}
use Rattle.mk_reply.specs.declared.reply.Reply.TheVariants.{Joined, Deposited, Withdrawn, Traded}
use Rattle.mk_reply.specs.declared.reply.Reply.TheVariants.{Spreaded, Resolved, Settled, Added}
use Rattle.mk_reply.specs.Replies.{IsReply, reply_text}
use Rattle.mk_rules.specs.Refusals.{refusals_by_record, refusals}
use Rattle.mk_rules.specs.Answers.{settled_by_rule, entry_of, next_history}
use Rattle.mk_rules.specs.Transcript.{Standing, Line, OfCommand, NoCommand, LongLine, after}

-- a trade, of whatever units
pub record IsTradeAt (at : ℕ) (reply : Reply) : Type 0 where
  pub hit : ℕ
  pub miss : ℕ
  pub printed : reply ≡ Traded hit miss at

-- a trade of a whole distribution, of whatever units for each share
pub record IsSpreadAt (at : ℕ) (shares : List ℕ) (reply : Reply) : Type 0 where
  pub factors : ArrayVec ℕ
  pub printed : reply ≡ Spreaded factors at
  pub one_each : length factors.items ≡ length shares

-- a settlement that lists payments, whatever they are, to these users in this order
pub record IsListed (at : ℕ) (names : List (List ℕ)) (reply : Reply) : Type 0 where
  pub payments : List Payment
  pub printed : reply ≡ Settled at payments
  pub in_order : map (λ (p : Payment). p.user) payments ≡ names

-- a settlement that lists its payments, but for more users than it may list: then these are the payments by rule
pub record IsSettledAt (market : Market) (H : List Entry) (reply : Reply) : Type 0 where
  pub listed : length (users H) ≤ max_payments → IsListed (revision H + 1) (users H) reply
  pub summed : max_payments < length (users H) → reply ≡ settled_by_rule market H

-- a reply that appends an entry, whose own words are those of the command and the history
abbrev pub Agrees : Market → List Entry → Command → Reply → Type 0
Agrees market H (User u) reply = reply ≡ Joined u (revision H + 1)
Agrees market H (Deposit u bits) reply = reply ≡ Deposited u bits (revision H + 1)
Agrees market H (Withdraw u bits) reply = reply ≡ Withdrawn u bits (revision H + 1)
Agrees market H (Edit u q X seen) reply = IsTradeAt (revision H + 1) reply
Agrees market H (Spread u v condition to seen) reply = IsSpreadAt (revision H + 1) to.items reply
Agrees market H (Resolve p) reply = reply ≡ Resolved p (revision H + 1)
Agrees market H Settle reply = IsSettledAt market H reply
Agrees market H (Add add) reply = IsAddText add × (reply ≡ Added add.variable (revision H + 1))
Agrees market H _ reply = ⊥

-- the refusals that are tried again: those by its words and by what was done; and of those by what
-- can come the one of a resolution, which has to leave a possible state
abbrev pub refusals_again : Market → List Entry → Command → List (Option Refusal)
refusals_again market H (Resolve p) = refusals market H (Resolve p)
refusals_again market H command = refusals_by_record market H command

-- a command and a reply that are taken back
pub record IsFit (market : Market) (H : List Entry) (command : Command)
    (reply : Reply) : Type 0 where
  pub unrefused : first_of (refusals_again market H command) ≡ None
  pub agrees : Agrees market H command reply

-- commands with their replies
abbrev pub Changes : Type 0
Changes = List (Command × Reply)

-- each change fits the history that those before it give, in the market of that history, and this
-- is what all of them give
abbrev pub Restores : Market → List Entry → Changes → List Entry → Type 0
Restores market H [] new = new ≡ H
Restores market H (change ∷ changes) new =
    IsFit (present market H) H (change.0) (change.1)
    × Restores market (next_history (present market H) H (change.0) (change.1)) changes new

-- the changes among the lines of a run: those whose replies append an entry
abbrev pub change_of : Market → List Entry → Line → Reply → Changes
change_of market H (OfCommand command) reply =
    elim (entry_of market H command reply) [ None ↦ [] | Some e ↦ (command, reply) ∷ [] ]
change_of market H NoCommand reply = []
change_of market H LongLine reply = []

abbrev pub changes_of : Market → Standing → List Line → List Reply → Changes
changes_of market now [] replies = []
changes_of market now (line ∷ lines) [] = []
changes_of market now (line ∷ lines) (reply ∷ replies) =
    change_of (present market now.history) now.history line reply
    ++ changes_of market (after (present market now.history) now line reply) lines replies

-- a change that a record can hold
abbrev pub IsChange : Command × Reply → Type 0
IsChange change = IsCommand (change.0) × IsReply (change.1)

-- a record: the command's text, LF, and the reply's text
pub record IsRecord (bytes : List ℕ) (command : Command) (reply : Reply) : Type 0 where
  pub has_texts : IsChange (command, reply)
  pub text : bytes ≡ command_text command ++ 10 ∷ reply_text reply
