-- What a verdict decides. Each law is the contract of a function of this crate, and so proved.
use Rattle.std.specs.Prelude.{◌≡◌, ◌≢◌, ℕ, List, All}
use Rattle.mk_io.specs.Stream.{StreamLine}
use Rattle.mk_exact.specs.Market.{Market}
use Rattle.mk_reply.specs.declared.reply.Reply.{Reply}
use Rattle.mk_reply.specs.Replies.{IsReply, reply_text}
use Rattle.mk_rules.specs.Standings.{IsMarket}
use Rattle.mk_rules.specs.Transcript.{Standing}
use Rattle.mk_session.specs.Outcome.{IsFrontOf}
use Rattle.mk_session.specs.Transcript.{from_opening, Transcript}
use Rattle.mk_audit.specs.Verdicts.{IsRightFront, IsWrongAt}

-- a transcript that is wrong at some line is none that the market allows
abbrev pub WrongIsNone : Type 0
WrongIsNone = (market : Market) (lines : List StreamLine) (transcript : List ℕ) (n : ℕ)
    → IsMarket market → IsWrongAt market lines transcript n
    → ¬ Transcript (from_opening market) lines transcript

-- two right fronts of the same lines in one transcript have the same replies, and so they leave the
-- same standing, are the same bytes, and have as many lines
abbrev pub RightFrontIsOne : Type 0
RightFrontIsOne = (market : Market) (lines : List StreamLine) (transcript first second : List ℕ)
    (now then : Standing) (m n : ℕ) → IsMarket market
    → (one : IsRightFront market lines now first m)
    → (other : IsRightFront market lines then second n)
    → IsFrontOf transcript first → IsFrontOf transcript second
    → (one.replies ≡ other.replies) × (now ≡ then) × (first ≡ second) × (m ≡ n)

-- no reply's text has an LF, so each line of a transcript is one reply's
abbrev pub ReplyIsOneLine : Type 0
ReplyIsOneLine = (reply : Reply) → IsReply reply → All (λ b. b ≢ 10) (reply_text reply)
