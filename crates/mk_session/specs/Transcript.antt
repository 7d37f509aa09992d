-- The transcripts that a market allows.
use Rattle.std.specs.Prelude.{◌≡◌, ◌≢◌, ℕ, List, ◌++◌, filter, All, Option, Some, None}
use Rattle.std.specs.List.{flat_map, AllZip}
use Rattle.mk_io.specs.Stream.{StreamLine, text, long, is_not_blank}
use Rattle.mk_exact.specs.History.{Entry, revision}
use Rattle.mk_exact.specs.Market.{Market, present}
use Rattle.mk_command.specs.declared.command.Command.{Command}
use Rattle.mk_command.specs.Commands.{IsCommand, command_text}
use Rattle.mk_reply.specs.declared.reply.Reply.{Reply}
use Rattle.mk_rules.specs.Quotes.{no_quotes}
use Rattle.mk_rules.specs.Transcript.{Standing, opening, Line, OfCommand, NoCommand, LongLine, Run}
use Rattle.mk_rules.specs.Laws.{PaysWithin}
use Rattle.mk_session.specs.Texts.{head_of, reply_line}
use Rattle.mk_session.specs.Passed.{standings, IsSafe}

-- what a line of the stream asks: a command, the text of none, or nothing since it is too long
abbrev pub Asks : StreamLine → Line → Type 0
Asks (text bytes) (OfCommand command) = IsCommand command × (bytes ≡ command_text command)
Asks (text bytes) NoCommand = (command : Command) → IsCommand command → bytes ≢ command_text command
Asks (text bytes) LongLine = ⊥
Asks long LongLine = Unit {0}
Asks long NoCommand = ⊥
Asks long (OfCommand command) = ⊥

-- some lines of a stream are answered by these replies: the rules of the market allow them to what
-- the lines that are not blank ask
pub record AreReplied (market : Market) (old : Standing) (lines : List StreamLine) (new : Standing)
    (replies : List Reply) : Type 0 where
  pub asked : List Line
  pub asks : AllZip Asks (filter is_not_blank lines) asked
  pub run : Run market old asked replies new

-- some lines are answered, and each reply is one line of the output
pub record AreAnswered (market : Market) (old : Standing) (lines : List StreamLine) (new : Standing)
    (output : List ℕ) : Type 0 where
  pub replies : List Reply
  pub replied : AreReplied market old lines new replies
  pub printed : output ≡ flat_map reply_line replies

-- where a run begins: a market, its standing, and what is written before the first reply
pub record Start : Type 0 where
  pub market : Market
  pub standing : Standing
  pub head : List ℕ

-- from this standing on; where a store gave changes back, their number stands behind the ready line
abbrev pub started : Market → Standing → Option ℕ → Start
started market standing recovered = record {
  market = market;
  standing = standing;
  head = head_of market recovered;
}

-- from the opening on
abbrev pub from_opening : Market → Start
from_opening market = started market opening None

-- from a history on that a store gave back; nobody is quoted anything
abbrev pub resumed : Market → List Entry → Start
resumed market H =
    started market (record { history = H; quotes = no_quotes H }) (Some (revision H))

-- these lines are answered from there on; before the first, between any two and behind the
-- last nobody can be bankrupt and what all users together have gained is bounded; and so is what a
-- settlement pays
pub record IsAllowedRun (start : Start) (lines : List StreamLine) (after : Standing)
    (replies : List Reply) : Type 0 where
  pub replied : AreReplied start.market start.standing lines after replies
  pub safe : All (IsSafe start.market)
      (standings start.market start.standing replied.asked replies)
  pub settled : All (PaysWithin (present start.market after.history) after.history) replies

-- what is written before the first reply, and one line for each reply of such a run
pub record Transcript (start : Start) (lines : List StreamLine) (output : List ℕ) : Type 0 where
  pub after : Standing
  pub replies : List Reply
  pub run : IsAllowedRun start lines after replies
  pub printed : output ≡ start.head ++ flat_map reply_line replies
