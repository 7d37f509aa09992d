-- What the records of a store file are to a market: the changes that they hold, and the history
-- that these give.
use Rattle.std.specs.Prelude.{◌≡◌, ◌⊎◌, ℕ, ◌+◌, List, [], ◌∷◌, ◌++◌, length}
use Rattle.std.specs.List.{AllZip}
use Rattle.mk_exact.specs.History.{Entry}
use Rattle.mk_exact.specs.Market.{Market, present}
use Rattle.mk_command.specs.declared.command.Command.{Command}
use Rattle.mk_reply.specs.declared.reply.Reply.{Reply}
use Rattle.mk_rules.specs.Quotes.{no_quotes}
use Rattle.mk_rules.specs.Standings.{Stands}
use Rattle.mk_rules.specs.Transcript.{Standing, OfCommand, after}
use Rattle.mk_restore.specs.Restoring.{Changes, IsRecord, IsFit, Restores}
use Rattle.mk_journal.specs.Store.{StandsFor, IsBroken}
use Rattle.mk_session.specs.Left.{IsRecordOf}

-- each record is that of one change
abbrev pub AreRecordsOf : List (List ℕ) → Changes → Type 0
AreRecordsOf records changes = AllZip IsRecordOf records changes

-- the change of a record is taken back by a market as it stands, and the standing moves on by it
pub record IsTakenBack (market : Market) (old : Standing) (bytes : List ℕ)
    (new : Standing) : Type 0 where
  pub command : Command
  pub reply : Reply
  pub is : IsRecord bytes command reply
  pub fits : IsFit market old.history command reply
  pub next : new ≡ after market old (OfCommand command) reply

-- records of changes that are taken back from one history on, and give another
pub record AreTakenBack (market : Market) (old : List Entry) (records : List (List ℕ))
    (new : List Entry) : Type 0 where
  pub changes : Changes
  pub are : AreRecordsOf records changes
  pub restores : Restores market old changes new

-- the standing of a history in which nobody is quoted anything, as after a restart
abbrev pub unquoted : List Entry → Standing
unquoted H = record { history = H; quotes = no_quotes H }

-- a file stands for records of changes that a market takes back from its opening on, and this is
-- the history that they give
pub record GivesBack (market : Market) (bytes file : List ℕ) (records : List (List ℕ))
    (history : List Entry) : Type 0 where
  pub stands_for : StandsFor bytes records file
  pub taken : AreTakenBack market [] records history

-- an honest file: the history that it gives back stands
pub record IsHonest (market : Market) (bytes file : List ℕ) : Type 0 where
  pub records : List (List ℕ)
  pub history : List Entry
  pub gives : GivesBack market bytes file records history
  pub stands : Stands (present market history) history

-- a record of no change that a market as it stands takes back behind a history
abbrev pub IsUnfit : Market → List Entry → List ℕ → Type 0
IsUnfit market H bytes = (command : Command) (reply : Reply)
    → IsRecord bytes command reply → IsFit market H command reply → ⊥

-- of some records that of this number, from one on, is the first that is not taken back
pub record IsFirstUnfit (market : Market) (old : List Entry) (records : List (List ℕ))
    (number : ℕ) : Type 0 where
  pub before : List (List ℕ)
  pub next : List ℕ
  pub others : List (List ℕ)
  pub parts : records ≡ before ++ next ∷ others
  pub place : number ≡ length before + 1
  pub history : List Entry
  pub taken : AreTakenBack market old before history
  pub unfit : IsUnfit (present market history) history next

-- the record of this number, from one on, is malformed, and all before it are taken back
pub record IsMalformedAt (market : Market) (bytes file : List ℕ) (number : ℕ) : Type 0 where
  pub before : List (List ℕ)
  pub broken : IsBroken bytes before file
  pub place : number ≡ length before + 1
  pub history : List Entry
  pub taken : AreTakenBack market [] before history

-- the record of this number, from one on, is well-formed and the first that is not taken back
pub record IsUnfitAt (market : Market) (bytes file : List ℕ) (number : ℕ) : Type 0 where
  pub records : List (List ℕ)
  pub are : StandsFor bytes records file ⊎ IsBroken bytes records file
  pub first : IsFirstUnfit market [] records number

-- the record of this number, from one on, is the first bad one
abbrev pub IsBadAt : Market → List ℕ → List ℕ → ℕ → Type 0
IsBadAt market bytes file number =
    IsMalformedAt market bytes file number ⊎ IsUnfitAt market bytes file number
