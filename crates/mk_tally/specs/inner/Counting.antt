-- How far the count of a run's replies has come. A market that is named beside a standing is the
-- file's.
use Rattle.std.specs.Prelude.{ℕ, ◌<◌, ◌≤◌, List, [], ◌∷◌, ◌++◌, Some, None, Result, Ok, Err}
use Rattle.std.specs.Prelude.{All, Bool, true, false}
use Rattle.mk_io.specs.Stream.{StreamLine}
use Rattle.mk_io.specs.Cutting.{Cutting, GoesOn}
use Rattle.mk_exact.specs.Market.{Market}
use Rattle.mk_reply.specs.declared.refusal.Refusal.TheVariants.{Memory as OutOfMemory}
use Rattle.mk_reply.specs.declared.reply.Reply.{Reply}
use Rattle.mk_reply.specs.declared.reply.Reply.TheVariants.{Refused}
use Rattle.mk_rules.specs.Transcript.{Standing, opening}
use Rattle.mk_rules.specs.Standings.{IsMarket}
use Rattle.mk_market.specs.Trading.{Trading, IsAt}
use Rattle.mk_session.specs.Transcript.{AreReplied}
use Rattle.mk_session.specs.inner.Progress.{IsPlaced, IsSoundAt}
use Rattle.mk_tally.specs.declared.counts.Tally.{Tally}
use Rattle.mk_tally.specs.declared.counts.TallyFault.{TallyFault}
use Rattle.mk_tally.specs.Tally.{IsRemembered, AreCounted}

abbrev pub uncounted : Tally
uncounted = record { replies = 0; trades = 0; refused = 0; last = None }

-- at most so many replies are counted, and no more trades or refusals than replies
pub record IsWithin (most : ℕ) (tally : Tally) : Type 0 where
  pub replies : tally.replies ≤ most
  pub trades : tally.trades ≤ tally.replies
  pub refused : tally.refused ≤ tally.replies

-- one reply more is within these
pub record HasRoom (most : ℕ) (tally : Tally) : Type 0 where
  pub within : IsWithin most tally
  pub less : tally.replies < most

-- some lines of a market from the opening on are answered, at no reply was memory wanting, and the
-- counts are those of the replies
pub record IsCounted (market : Market) (lines : List StreamLine) (now : Standing)
    (tally : Tally) : Type 0 where
  pub is_market : IsMarket market
  pub replies : List Reply
  pub replied : AreReplied market opening lines now replies
  pub remembered : All IsRemembered replies
  pub counts : AreCounted replies tally

-- one line more is answered, once the history before it is sound, and counted
pub record CountsLine (market : Market) (old : Standing) (line : StreamLine) (new : Standing)
    (before after : Tally) : Type 0 where
  pub replies : List Reply
  pub replied : IsSoundAt market old → AreReplied market old (line ∷ []) new replies
  pub remembered : All IsRemembered replies
  pub counts : (earlier : List Reply) → AreCounted earlier before → AreCounted (earlier ++ replies)
      after

-- the lines before the place are answered and counted
abbrev pub IsCountedSoFar : Market → List ℕ → Cutting → List ℕ → Standing → Tally → Type 0
IsCountedSoFar market all cutting source now tally = IsPlaced all cutting (Some source)
    (λ lines. IsCounted market lines now tally)

-- what was counted, unless a fault ends the count
abbrev pub counted_as : {T : Type 0} → Result T TallyFault → Tally → Result Tally TallyFault
counted_as (Ok done) tally = Ok tally
counted_as (Err fault) tally = Err fault

-- a reply that says that memory was wanting
abbrev pub is_want : Reply → Bool
is_want (Refused OutOfMemory) = true
is_want _ = false

-- between two lines: the market is the file's with what was added, the lines go on, the counts are
-- within the lines that were given, and the count is so far
pub record IsCounting {Own : Type 0} (start : Market) (trading : Trading Own) (all : List ℕ)
    (lines : Cutting) (source : List ℕ) (tally : Tally) : Type 0 where
  pub market : IsAt start trading
  pub goes_on : GoesOn lines.last
  pub fits : IsWithin lines.given tally
  pub far : IsCountedSoFar start all lines source trading.standing tally
