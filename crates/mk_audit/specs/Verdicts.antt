-- What the verdict on a transcript means.
use Rattle.std.specs.Prelude.{◌≡◌, ◌≢◌, ℕ, ◌+◌, List, [], ◌∷◌, ◌++◌, length, true, ⊤}
use Rattle.std.specs.Prelude.{Result, Ok, Err}
use Rattle.std.specs.List.{flat_map}
use Rattle.mk_io.specs.Outside.{CountsFault}
use Rattle.mk_io.specs.Stream.{StreamLine, stream_lines, is_not_blank}
use Rattle.mk_exact.specs.Market.{Market, present}
use Rattle.mk_command.specs.declared.command.Command.{Command}
use Rattle.mk_reply.specs.declared.reply.Reply.{Reply}
use Rattle.mk_reply.specs.Replies.{IsReply}
use Rattle.mk_rules.specs.Transcript.{Standing, opening, Line, OfCommand, IsAllowedFor}
use Rattle.mk_session.specs.Texts.{ready_line, reply_line}
use Rattle.mk_session.specs.Transcript.{Asks, AreReplied, from_opening, Transcript}
use Rattle.mk_session.specs.Outcome.{IsFrontOf}
use Rattle.mk_session.specs.Complete.{AreWithin}
use Rattle.mk_verify.specs.Clear.{IsOpen}
use Rattle.mk_audit.specs.declared.verdict.Verdict.{Verdict}
use Rattle.mk_audit.specs.declared.verdict.Verdict.TheVariants.{Yes, No, Unsure}
use Rattle.mk_audit.specs.declared.verdict.AuditFault.{AuditFault}
use Rattle.mk_audit.specs.declared.verdict.AuditFault.TheVariants.{Read, TooMany, Memory}

-- some lines of the commands are answered by allowed replies, and this is what was written for
-- them: the ready line and one line for each reply, so many in all
pub record IsRightFront (market : Market) (lines : List StreamLine) (now : Standing)
    (front : List ℕ) (count : ℕ) : Type 0 where
  pub replies : List Reply
  pub replied : AreReplied market opening lines now replies
  pub printed : front ≡ ready_line market ++ flat_map reply_line replies
  pub counted : count ≡ 1 + length replies

-- a transcript begins with the right line of a reply behind a front, which is allowed in the market
-- with what was added so far
pub record IsGoneOn (market : Market) (now : Standing) (asked : Line)
    (transcript front : List ℕ) : Type 0 where
  pub reply : Reply
  pub allowed : IsAllowedFor (present market now.history) now asked reply
  pub stands : IsFrontOf transcript (front ++ reply_line reply)

-- the first lines of the commands that have a right front in a transcript, and the next line that
-- is not blank
pub record IsReached (market : Market) (lines : List StreamLine) (transcript : List ℕ)
    (n : ℕ) (next : StreamLine → List StreamLine → Standing → List ℕ → Type 0) : Type 0 where
  pub done : List StreamLine
  pub line : StreamLine
  pub rest : List StreamLine
  pub parts : lines ≡ done ++ line ∷ rest
  pub not_blank : is_not_blank line ≡ true
  pub now : Standing
  pub front : List ℕ
  pub right : IsRightFront market done now front n
  pub begins : IsFrontOf transcript front
  pub there : next line rest now front

-- a transcript is wrong at a line behind so many right ones: no allowed reply stands there
abbrev pub IsWrongNext : Market → List StreamLine → List ℕ → ℕ → Type 0
IsWrongNext market lines transcript n = IsReached market lines transcript n
    (λ line rest now front. (asked : Line) × Asks line asked
    × ¬ IsGoneOn market now asked transcript front)

-- all lines have right replies, and something stands behind them
pub record IsTooLong (market : Market) (lines : List StreamLine) (transcript : List ℕ)
    (n : ℕ) : Type 0 where
  pub now : Standing
  pub front : List ℕ
  pub right : IsRightFront market lines now front n
  pub rest : List ℕ
  pub parts : transcript ≡ front ++ rest
  pub more : rest ≢ []

-- a transcript is wrong at this line, the first being the ready line
pub data IsWrongAt (market : Market) (lines : List StreamLine) (transcript : List ℕ) : ℕ → Type 0
  where
    Unready : ¬ IsFrontOf transcript (ready_line market)
        → IsWrongAt market lines transcript 1
    Disallowed : (n : ℕ) → IsWrongNext market lines transcript n
        → IsWrongAt market lines transcript (n + 1)
    Longer : (n : ℕ) → IsTooLong market lines transcript n
        → IsWrongAt market lines transcript (n + 1)

-- behind so many right lines a reply to a command stands which may be left undecided
abbrev pub IsOpenNext : Market → List StreamLine → List ℕ → ℕ → Type 0
IsOpenNext market lines transcript n = IsReached market lines transcript n
    (λ line rest now front. (command : Command) × (reply : Reply) × Asks line (OfCommand command)
    × IsReply reply × IsFrontOf transcript (front ++ reply_line reply)
    × IsOpen (present market now.history) now.history now.quotes command reply)

-- what a verdict says of a market, the lines of its commands, and a transcript: all of it is
-- allowed, and has so many lines; its line of this number is not allowed; or may be left undecided
abbrev pub Means : Market → List StreamLine → List ℕ → Verdict → Type 0
Means market lines transcript (Yes n) = Transcript (from_opening market) lines transcript
    × ((now : Standing) × IsRightFront market lines now transcript n)
Means market lines transcript (No n) = IsWrongAt market lines transcript n
Means market lines transcript (Unsure n) = (m : ℕ) × (n ≡ m + 1)
    × IsOpenNext market lines transcript m

-- how an audit ends: by its verdict; or since the commands are more than a stream may hold; a
-- failed read and want of memory say nothing
abbrev pub AuditEnds : Result Verdict AuditFault → Market → List ℕ → List ℕ → Type 0
AuditEnds (Ok verdict) market all transcript = Means market (stream_lines all) transcript verdict
AuditEnds (Err TooMany) market all transcript = ¬ AreWithin all
AuditEnds (Err Read) market all transcript = ⊤
AuditEnds (Err Memory) market all transcript = ⊤

-- the commands failed where a fault was counted, and nowhere else
abbrev pub HasAuditCause : {T : Type 0} → Result T AuditFault → ℕ → ℕ → Type 0
HasAuditCause (Err Read) before now = CountsFault before now
HasAuditCause (Err TooMany) before now = now ≡ before
HasAuditCause (Err Memory) before now = now ≡ before
HasAuditCause (Ok verdict) before now = now ≡ before
