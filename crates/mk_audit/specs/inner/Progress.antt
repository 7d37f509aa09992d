-- How far an audit has come, and what it finds of one line more. What is found of a line speaks of
-- the market as it stands; what is held of all lines so far speaks of the file's.
use Rattle.std.specs.Prelude.{◌≡◌, ◌≢◌, ℕ, ◌+◌, List, [], ◌∷◌, ◌++◌, length, drop, true, false, ⊤}
use Rattle.std.specs.Prelude.{Option, Some, None, Result, Ok, Err, MatchOption, All}
use Rattle.std.specs.List.{flat_map}
use Rattle.mk_io.specs.Cutting.{Cutting}
use Rattle.mk_io.specs.Stream.{StreamLine, is_not_blank}
use Rattle.mk_exact.specs.Market.{Market}
use Rattle.mk_command.specs.declared.command.Command.{Command}
use Rattle.mk_reply.specs.declared.reply.Reply.{Reply}
use Rattle.mk_reply.specs.Replies.{IsReply}
use Rattle.mk_rules.specs.Answers.{IsAllowed}
use Rattle.mk_rules.specs.Bounded.{IsBounded}
use Rattle.mk_rules.specs.Standings.{IsReady}
use Rattle.mk_rules.specs.Transcript.{Standing, Line, OfCommand, IsAllowedFor, after}
use Rattle.mk_rules.specs.Transcript.{market_after}
use Rattle.mk_market.specs.Trading.{Trading}
use Rattle.mk_session.specs.Texts.{reply_line}
use Rattle.mk_session.specs.Transcript.{Asks}
use Rattle.mk_session.specs.Outcome.{IsFrontOf}
use Rattle.mk_session.specs.inner.Progress.{IsPlaced}
use Rattle.mk_verify.specs.Clear.{IsOpen}
use Rattle.mk_known.specs.Known.{IsKnown, standing_with}
use Rattle.mk_audit.specs.declared.verdict.Verdict.{Verdict}
use Rattle.mk_audit.specs.declared.verdict.Verdict.TheVariants.{Yes, No, Unsure}
use Rattle.mk_audit.specs.declared.verdict.AuditFault.{AuditFault}
use Rattle.mk_audit.specs.declared.verdict.AuditFault.TheVariants.{Read, TooMany, Memory}
use Rattle.mk_audit.specs.declared.front.Front.{Front}
use Rattle.mk_audit.specs.Verdicts.{IsRightFront}

-- what stands before the first LF of some bytes
pub record IsFirstLine (line bytes : List ℕ) : Type 0 where
  pub no_lf : All (λ b. b ≢ 10) line
  pub rest : List ℕ
  pub parts : bytes ≡ line ++ 10 ∷ rest

-- where the replies so far lead, by the history of the market and the quotes that were printed
abbrev pub standing_at : Standing → Front → Standing
standing_at now front = standing_with now.history front.known

-- what is left of a transcript behind the right lines
abbrev pub left_of : List ℕ → Front → List ℕ
left_of transcript front = drop front.place transcript

-- between two lines: what is known of the market as it stands is so, and each line has an allowed
-- reply, which has a text
pub record StandsAt (market : Market) (now : Standing) (front : Front) : Type 0 where
  pub known : IsKnown market now.history front.known
  pub ready : IsReady market (standing_at now front)
  pub bounded : IsBounded market now.history

-- some bytes stand next, and make one right line more; or they do not, and that line is wrong
abbrev pub HoldsBytes : Option (Result Verdict AuditFault) → List ℕ → List ℕ → Front → Front
    → Type 0
HoldsBytes None bytes transcript before after =
    (left_of transcript before ≡ bytes ++ left_of transcript after)
    × (after.right ≡ before.right + 1)
HoldsBytes (Some end) bytes transcript before after =
    (end ≡ Ok (No (before.right + 1))) × ¬ IsFrontOf (left_of transcript before) bytes

-- where a reply to a command is allowed, the audit goes on where it leads; or memory was wanting,
-- and the market is as it was
abbrev pub GoesOnBy : {Own : Type 0} → Option (Result Verdict AuditFault) → Trading Own
    → Trading Own → Front → Front → Command → Reply → Type 0
GoesOnBy None old new before behind command reply =
    IsAllowed old.market old.standing.history before.known.quotes command reply
    → (new.market ≡ market_after old.market old.standing (OfCommand command) reply)
    × (standing_at new.standing behind
    ≡ after old.market (standing_at old.standing before) (OfCommand command) reply)
    × IsKnown new.market new.standing.history behind.known
GoesOnBy (Some end) old new before behind command reply = (end ≡ Err Memory) × (new ≡ old)

-- a reply to a command is allowed, and the audit goes on behind it; or how it ends
abbrev pub HoldsReply : Option (Result Verdict AuditFault) → Market → Standing → Standing → Command
    → Reply → ℕ → Type 0
HoldsReply None market old new command reply count =
    IsAllowed market old.history old.quotes command reply
    × (new ≡ after market old (OfCommand command) reply)
HoldsReply (Some (Ok (No n))) market old new command reply count =
    (n ≡ count + 1) × ¬ IsAllowed market old.history old.quotes command reply
HoldsReply (Some (Ok (Unsure n))) market old new command reply count =
    (n ≡ count + 1) × IsOpen market old.history old.quotes command reply
HoldsReply (Some (Ok (Yes n))) market old new command reply count = ⊥
HoldsReply (Some (Err Memory)) market old new command reply count = ⊤
HoldsReply (Some (Err TooMany)) market old new command reply count = ⊥
HoldsReply (Some (Err Read)) market old new command reply count = ⊥

-- an allowed reply to a line, in the market as it stands, and where it leads
pub record IsReplyTo (line : StreamLine) (market : Market) (old new : Standing)
    (reply : Reply) : Type 0 where
  pub not_blank : is_not_blank line ≡ true
  pub asked : Line
  pub asks : Asks line asked
  pub allowed : IsAllowedFor market old asked reply
  pub leads : new ≡ after market old asked reply

-- the replies to a line: none where it is blank, and else one
abbrev pub AreRepliesTo : StreamLine → Market → Standing → Standing → List Reply → Type 0
AreRepliesTo line market old new [] = (is_not_blank line ≡ false) × (new ≡ old)
AreRepliesTo line market old new (reply ∷ []) = IsReplyTo line market old new reply
AreRepliesTo line market old new (reply ∷ another ∷ replies) = ⊥

-- a line has its right replies, and they stand next
pub record IsPassed (market : Market) (old new : Standing) (line : StreamLine)
    (left behind : List ℕ) (before after : ℕ) : Type 0 where
  pub replies : List Reply
  pub replied : AreRepliesTo line market old new replies
  pub stand : left ≡ flat_map reply_line replies ++ behind
  pub counted : after ≡ before + length replies

-- a line asks for a reply, and no allowed one stands next
pub record IsStuck (market : Market) (now : Standing) (line : StreamLine) (left : List ℕ) : Type 0
  where
    pub not_blank : is_not_blank line ≡ true
    pub asked : Line
    pub asks : Asks line asked
    pub none : (reply : Reply) → IsAllowedFor market now asked reply
        → ¬ IsFrontOf left (reply_line reply)

-- a reply to a command stands next, and may be left undecided
pub record IsUndecided (market : Market) (now : Standing) (line : StreamLine) (left : List ℕ) : Type
    0 where
  pub not_blank : is_not_blank line ≡ true
  pub command : Command
  pub reply : Reply
  pub asks : Asks line (OfCommand command)
  pub is_reply : IsReply reply
  pub stands : IsFrontOf left (reply_line reply)
  pub is_open : IsOpen market now.history now.quotes command reply

-- how an audit ends at a line, behind so many lines of the transcript that are right
abbrev pub EndsAt : Result Verdict AuditFault → Market → Standing → StreamLine → List ℕ → ℕ
    → Type 0
EndsAt (Ok (No n)) market now line left count = (n ≡ count + 1) × IsStuck market now line left
EndsAt (Ok (Unsure n)) market now line left count =
    (n ≡ count + 1) × IsUndecided market now line left
EndsAt (Ok (Yes n)) market now line left count = ⊥
EndsAt (Err Memory) market now line left count = ⊤
EndsAt (Err TooMany) market now line left count = ⊥
EndsAt (Err Read) market now line left count = ⊥

-- a line is passed, or the audit ends at it
abbrev pub Holds : Option (Result Verdict AuditFault) → Market → Standing → Standing → StreamLine
    → List ℕ → Front → Front → Type 0
Holds ended market old new line transcript before after = MatchOption ended
    (IsPassed market (standing_at old before) (standing_at new after) line
    (left_of transcript before) (left_of transcript after) before.right after.right)
    (λ end. EndsAt end market (standing_at old before) line (left_of transcript before)
    before.right)

-- how an audit ends behind the last line: well where nothing is left
abbrev pub EndsBehind : Verdict → List ℕ → ℕ → Type 0
EndsBehind (Yes n) left count = (n ≡ count) × (left ≡ [])
EndsBehind (No n) left count = (n ≡ count + 1) × (left ≢ [])
EndsBehind (Unsure n) left count = ⊥

-- some lines of a file's market have right replies, so many lines in all, and this is left of the
-- transcript behind them
pub record IsHeld (market : Market) (lines : List StreamLine) (now : Standing)
    (transcript left : List ℕ) (count : ℕ) : Type 0 where
  pub front : List ℕ
  pub right : IsRightFront market lines now front count
  pub parts : transcript ≡ front ++ left

-- the lines before the place in the stream are held
abbrev pub IsSoFar : Market → List ℕ → Cutting → Option (List ℕ) → Standing → List ℕ → Front
    → Type 0
IsSoFar market all cutting source now transcript front = IsPlaced all cutting source
    (λ lines. IsHeld market lines (standing_at now front) transcript (left_of transcript front)
    front.right)
