-- What of the changes of a run is kept before its replies are written, and what a crash leaves. A
-- market that is named beside a standing is the file's.
use Rattle.std.specs.Prelude.{◌≡◌, ◌≢◌, ℕ, ◌+◌, ◌-◌, ◌^◌, ◌<◌, ◌≤◌, List, [], ◌∷◌, ◌++◌, length}
use Rattle.std.specs.Prelude.{take, filter, Option, Result, Ok, Err, OnOk, OnErr, MatchResult, ◌⊎◌}
use Rattle.std.specs.List.{flat_map, AllZip}
use Rattle.mk_io.specs.Outside.{append_known, AddsFront}
use Rattle.mk_io.specs.Stream.{StreamLine, is_not_blank}
use Rattle.mk_io.specs.Cutting.{Cutting}
use Rattle.mk_disk.specs.Disk.{HasCause}
use Rattle.mk_journal.specs.Keepers.{Holds}
use Rattle.mk_exact.specs.Market.{Market, present}
use Rattle.mk_reply.specs.declared.reply.Reply.{Reply}
use Rattle.mk_rules.specs.Transcript.{Standing, Line, IsAllowedFor, after, Run}
use Rattle.mk_restore.specs.Restoring.{changes_of}
use Rattle.mk_session.specs.declared.waiting.TellFault.{TellFault}
use Rattle.mk_session.specs.declared.waiting.TellFault.TheVariants.{Disk, Sink}
use Rattle.mk_session.specs.Texts.{reply_line}
use Rattle.mk_session.specs.Transcript.{Start, Asks}
use Rattle.mk_session.specs.Begins.{CanBegin}
use Rattle.mk_session.specs.Outcome.{IsFrontOf}
use Rattle.mk_session.specs.Left.{records_of, IsRecordOf, changes_from, AreTold, LeavesSince}
use Rattle.mk_session.specs.inner.Progress.{IsSoundAt, IsPlaced, Gathers}
use Rattle.mk_session.specs.inner.Telling.{HasTellCause}

-- a line that is not blank got one reply, whose line this is
pub record IsSpoken (market : Market) (old : Standing) (line : StreamLine) (new : Standing)
    (output : List ℕ) : Type 0 where
  pub asked : Line
  pub reply : Reply
  pub asks : Asks line asked
  pub allowed : IsSoundAt market old → IsAllowedFor (present market old.history) old asked reply
  pub next : new ≡ after (present market old.history) old asked reply
  pub printed : output ≡ reply_line reply

-- some lines got replies, which are allowed once the history before them is sound; P holds of the
-- lines of these and of the records of their changes
pub record AreSpoken (market : Market) (old : Standing) (lines : List StreamLine) (new : Standing)
    (P : List ℕ → List (List ℕ) → Type 0) : Type 0 where
  pub asked : List Line
  pub replies : List Reply
  pub asks : AllZip Asks (filter is_not_blank lines) asked
  pub run : IsSoundAt market old → Run market old asked replies new
  pub holds : P (flat_map reply_line replies) (records_of (changes_of market old asked replies))

-- the records of the changes that a line and its reply, whose line is printed, made of a history
-- that had so many entries before
pub record AreMade (entries before : ℕ) (line printed : List ℕ) (records : List (List ℕ))
    : Type 0 where
  pub none : entries ≡ before → records ≡ []
  pub one : entries ≢ before
      → records ≡ (line ++ 10 ∷ take (length printed - 1) printed) ∷ []

-- these changes are held, and a crash at any moment since the run began leaves a front of them,
-- with all that were kept before it
pub record HoldsSince (holds : List (List ℕ) → List (List ℕ) → Type 0)
    (passes : List (List ℕ) → ℕ → Type 0) (first least : ℕ) (all : List (List ℕ)) : Type 0 where
  pub held : Holds holds least all
  pub no_fewer : first ≤ least
  pub passed : passes all first

-- what a call leaves that takes a change: whether its keeper is ready again, which fault it counts,
-- and what holds the change or may be left of it
pub record TakesChange {T E D K : Type 0} (is_ready : K → D → ℕ → Type 0) (faults : D → ℕ)
    (holds : K → D → List ℕ → List ℕ → List (List ℕ) → List (List ℕ) → Type 0)
    (leaves : D → List ℕ → List ℕ → List (List ℕ) → ℕ → Type 0)
    (passes : D → D → List ℕ → List ℕ → List (List ℕ) → ℕ → Type 0)
    (said : Result T E) (keeper keeper' : K) (disk disk' : D) (change : List ℕ) : Type 0 where
  pub ready : (n : ℕ) → n < 2 ^ 40 → is_ready keeper disk n
      → OnOk said (is_ready keeper' disk' (n + 1))
  pub cause : HasCause (faults disk) (faults disk') said
  pub taken : (begun : D) (name market : List ℕ) (first least : ℕ) (all : List (List ℕ))
      → HoldsSince (holds keeper disk name market) (passes begun disk name market) first least all
      → MatchResult said
      (λ _. HoldsSince (holds keeper' disk' name market) (passes begun disk' name market) first
      least (all ++ change ∷ []))
      (λ _. LeavesSince (leaves disk' name market) (passes begun disk' name market) first
      (all ++ change ∷ []) least)

-- what comes of lines that wait and of the changes behind them, where they may be told: as many
-- changes count as kept as before, and no line is written; or all do, and all lines that waited
-- are written. A fault of the disk leaves the first, one of the sink the second
abbrev pub Tells : {T : Type 0} → Result T TellFault → Option (List ℕ) → Option (List ℕ) → List ℕ
    → List ℕ → List ℕ → ℕ → ℕ → (ℕ → Type 0) → (ℕ → Type 0) → Type 0
Tells (Ok value) before after waited more waits least most holds leaves =
    ((after ≡ before) × (waits ≡ waited ++ more) × holds least)
    ⊎ ((after ≡ append_known before waited) × (waits ≡ more) × holds most)
Tells (Err Disk) before after waited more waits least most holds leaves =
    (after ≡ before) × leaves least
Tells (Err Sink) before after waited more waits least most holds leaves =
    AddsFront before after waited × leaves most

-- what a call leaves that puts more behind what waits: whether its keeper is ready again, which
-- fault it counts, what it writes, and what is kept
pub record IsTold {T D K S : Type 0} (is_ready : K → D → ℕ → Type 0) (disk_faults : D → ℕ)
    (holds : K → D → List ℕ → List ℕ → List (List ℕ) → List (List ℕ) → Type 0)
    (leaves : D → List ℕ → List ℕ → List (List ℕ) → ℕ → Type 0)
    (passes : D → D → List ℕ → List ℕ → List (List ℕ) → ℕ → Type 0)
    (written : S → Option (List ℕ)) (sink_faults : S → ℕ) (said : Result T TellFault)
    (keeper keeper' : K) (disk disk' : D) (out out' : S) (waited more waits : List ℕ) : Type 0 where
  pub ready : (n : ℕ) → n < 2 ^ 40 → is_ready keeper disk n → OnOk said (is_ready keeper' disk' n)
  pub cause : HasTellCause said (disk_faults disk) (disk_faults disk') (sink_faults out)
      (sink_faults out')
  pub gathers : OnOk said (Gathers (written out) (written out') waited more waits)
  pub front : OnErr said (AddsFront (written out) (written out') waited)
  pub tells : (begun : D) (name market : List ℕ) (first least : ℕ) (all : List (List ℕ))
      → HoldsSince (holds keeper disk name market) (passes begun disk name market) first least all
      → Tells said (written out) (written out') waited more waits least (length all)
      (λ n. HoldsSince (holds keeper' disk' name market) (passes begun disk' name market) first n
      all)
      (LeavesSince (leaves disk' name market) (passes begun disk' name market) first all)

-- the same of the lines of replies, whose changes are taken before
abbrev pub SpeaksAndTells : {T : Type 0} → Result T TellFault → Market → Standing
    → List StreamLine → Standing → Option (List ℕ) → Option (List ℕ) → List ℕ → List ℕ → ℕ
    → List (List ℕ) → (ℕ → List (List ℕ) → Type 0) → (List (List ℕ) → ℕ → Type 0) → Type 0
SpeaksAndTells said market old lines new before after waited waits least all holds leaves =
    AreSpoken market old lines new (λ output records. Tells said before after waited output waits
    least (length (all ++ records)) (λ n. holds n (all ++ records)) (leaves (all ++ records)))

-- the lines of a run are answered; the changes that are told are held as kept, behind the old ones
pub record AreHeld (start : Start) (lines : List StreamLine) (now : Standing)
    (before written : Option (List ℕ)) (waits : List ℕ) (old : List (List ℕ))
    (holds : ℕ → List (List ℕ) → Type 0) : Type 0 where
  pub begins : CanBegin start.market start.standing
  pub bytes : List ℕ
  pub added : written ≡ append_known before bytes
  pub asked : List Line
  pub replies : List Reply
  pub asks : AllZip Asks (filter is_not_blank lines) asked
  pub run : Run start.market start.standing asked replies now
  pub printed : bytes ++ waits ≡ start.head ++ flat_map reply_line replies
  pub least : ℕ
  pub no_fewer : length old ≤ least
  pub told : AreTold start asked replies (λ text. length text ≤ length bytes) (length old) least
  pub held : holds least (old ++ records_of (changes_from start asked replies))

-- the lines of a run were answered; a crash leaves a front of the old records and of those of their
-- changes, with those of all changes that are told
pub record AreLeft (start : Start) (lines : List StreamLine) (before written : Option (List ℕ))
    (old : List (List ℕ)) (leaves : List (List ℕ) → ℕ → Type 0) : Type 0 where
  pub bytes : List ℕ
  pub added : written ≡ append_known before bytes
  pub now : Standing
  pub asked : List Line
  pub replies : List Reply
  pub asks : AllZip Asks (filter is_not_blank lines) asked
  pub run : Run start.market start.standing asked replies now
  pub shown : IsFrontOf (start.head ++ flat_map reply_line replies) bytes
  pub are : AllZip IsRecordOf (records_of (changes_from start asked replies))
      (changes_from start asked replies)
  pub least : ℕ
  pub no_fewer : length old ≤ least
  pub told : AreTold start asked replies (IsFrontOf bytes) (length old) least
  pub left : leaves (old ++ records_of (changes_from start asked replies)) least

-- so far, between two lines
abbrev pub IsHeldSoFar : Start → List ℕ → Cutting → Option (List ℕ) → Standing → Option (List ℕ)
    → Option (List ℕ) → List ℕ → List (List ℕ) → (ℕ → List (List ℕ) → Type 0) → Type 0
IsHeldSoFar start all cutting source now before written waits old holds =
    IsPlaced all cutting source (λ lines. AreHeld start lines now before written waits old holds)
