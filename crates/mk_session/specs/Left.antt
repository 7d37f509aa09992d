-- What a crash leaves of the changes of a run that a store keeps.
use Rattle.std.specs.Prelude.{◌≡◌, ℕ, ◌+◌, ◌≤◌, List, [], ◌∷◌, ◌++◌, length, map, take, filter}
use Rattle.std.specs.Prelude.{Option, ◌⊎◌}
use Rattle.std.specs.List.{flat_map, AllZip}
use Rattle.mk_io.specs.Outside.{append_known}
use Rattle.mk_io.specs.Stream.{stream_lines, AreWholeLines, is_not_blank}
use Rattle.mk_command.specs.declared.command.Command.{Command}
use Rattle.mk_command.specs.Commands.{command_text}
use Rattle.mk_reply.specs.declared.reply.Reply.{Reply}
use Rattle.mk_reply.specs.Replies.{reply_text}
use Rattle.mk_rules.specs.Transcript.{Standing, Line, Run}
use Rattle.mk_restore.specs.Restoring.{Changes, changes_of, IsRecord}
use Rattle.mk_session.specs.Texts.{reply_line}
use Rattle.mk_session.specs.Transcript.{Start, Asks}
use Rattle.mk_session.specs.Outcome.{IsFrontOf}

-- the record of a change: the line that made it, LF, and the text of its reply
abbrev pub record_of : Command × Reply → List ℕ
record_of change = command_text (change.0) ++ 10 ∷ reply_text (change.1)

abbrev pub records_of : Changes → List (List ℕ)
records_of changes = map record_of changes

-- such a record is what a store's record is of a change
abbrev pub IsRecordOf : List ℕ → Command × Reply → Type 0
IsRecordOf bytes change = IsRecord bytes (change.0) (change.1)

-- the changes of a run
abbrev pub changes_from : Start → List Line → List Reply → Changes
changes_from start asked replies = changes_of start.market start.standing asked replies

-- of the first replies, whose lines stand, all changes are among so many, behind those that were
-- kept before the run
abbrev pub AreTold : Start → List Line → List Reply → (List ℕ → Type 0) → ℕ → ℕ → Type 0
AreTold start asked replies stands first least =
    (n : ℕ) → n ≤ length replies → stands (start.head ++ flat_map reply_line (take n replies))
    → first + length (changes_from start asked (take n replies)) ≤ least

-- a crash now leaves a front of some records, at least so many; and at any moment since the run
-- began it left a front of them, with all that were kept before
pub record LeavesSince (leaves passes : List (List ℕ) → ℕ → Type 0) (first : ℕ)
    (all : List (List ℕ)) (least : ℕ) : Type 0 where
  pub now : leaves all least
  pub any_moment : passes all first

-- a run answered the first lines of some bytes by allowed replies, and wrote an output: a front of
-- its head and the lines of these replies. Of the old records and those of its changes, in their
-- order, a crash leaves a front: with all that are old, and with each whose reply stands whole in
-- the output
pub record IsLeft (start : Start) (all : List ℕ) (before written : Option (List ℕ))
    (old : List (List ℕ)) (leaves : List (List ℕ) → ℕ → Type 0) : Type 0 where
  pub done : List ℕ
  pub rest : List ℕ
  pub bytes : all ≡ done ++ rest
  pub lines : AreWholeLines done ⊎ (rest ≡ [])
  pub output : List ℕ
  pub added : written ≡ append_known before output
  pub now : Standing
  pub asked : List Line
  pub replies : List Reply
  pub asks : AllZip Asks (filter is_not_blank (stream_lines done)) asked
  pub run : Run start.market start.standing asked replies now
  pub shown : IsFrontOf (start.head ++ flat_map reply_line replies) output
  pub are : AllZip IsRecordOf (records_of (changes_from start asked replies))
      (changes_from start asked replies)
  pub least : ℕ
  pub no_fewer : length old ≤ least
  pub told : AreTold start asked replies (IsFrontOf output) (length old) least
  pub left : leaves (old ++ records_of (changes_from start asked replies)) least
