-- The count of a run's replies.
use Rattle.std.specs.Prelude.{◌≡◌, ◌≢◌, ℕ, List, [], ◌∷◌, length, Bool, true, false, Option, Some}
use Rattle.std.specs.Prelude.{None, Result, Ok, Err, All, ⊤}
use Rattle.std.specs.List.{count_by}
use Rattle.mk_io.specs.Stream.{stream_lines}
use Rattle.mk_exact.specs.Market.{Market}
use Rattle.mk_file.specs.declared.fault.FileFault.{FileFault}
use Rattle.mk_file.specs.declared.fault.FileFault.TheVariants.{Memory as FileMemory}
use Rattle.mk_reply.specs.declared.refusal.Refusal.TheVariants.{Memory as OutOfMemory}
use Rattle.mk_reply.specs.declared.reply.Reply.{Reply}
use Rattle.mk_reply.specs.declared.reply.Reply.TheVariants.{Traded, Spreaded, Refused}
use Rattle.mk_rules.specs.Transcript.{Standing}
use Rattle.mk_session.specs.Transcript.{from_opening, IsAllowedRun}
use Rattle.mk_session.specs.Complete.{AreWithin}
use Rattle.mk_tally.specs.declared.counts.Tally.{Tally}
use Rattle.mk_tally.specs.declared.counts.TallyFault.{TallyFault}
use Rattle.mk_tally.specs.declared.counts.TallyFault.TheVariants.{Market as Refuses, TooMany}
use Rattle.mk_tally.specs.declared.counts.TallyFault.TheVariants.{Memory}

-- an edit of a question or of a whole distribution was made
abbrev pub is_trade : Reply → Bool
is_trade (Traded hit miss at) = true
is_trade (Spreaded factors at) = true
is_trade _ = false

abbrev pub is_refusal : Reply → Bool
is_refusal (Refused why) = true
is_refusal _ = false

abbrev pub last_reply : List Reply → Option Reply
last_reply [] = None
last_reply (reply ∷ []) = Some reply
last_reply (reply ∷ next ∷ replies) = last_reply (next ∷ replies)

-- memory was not wanting at this reply
abbrev pub IsRemembered : Reply → Type 0
IsRemembered reply = reply ≢ Refused OutOfMemory

-- how many replies there are, how many are trades and how many refusals, and the last one
pub record AreCounted (replies : List Reply) (tally : Tally) : Type 0 where
  pub counted : tally.replies ≡ length replies
  pub trades : tally.trades ≡ count_by is_trade replies
  pub refusals : tally.refused ≡ count_by is_refusal replies
  pub last : tally.last ≡ last_reply replies

-- the counts of the replies of a run that answers all commands, at none of which memory was wanting
pub record IsTally (market : Market) (all : List ℕ) (tally : Tally) : Type 0 where
  pub after : Standing
  pub replies : List Reply
  pub run : IsAllowedRun (from_opening market) (stream_lines all) after replies
  pub remembered : All IsRemembered replies
  pub counts : AreCounted replies tally
  pub within : AreWithin all

-- how a tally ends, by what the file gives: with the counts, or with the fault of the file, or
-- since the commands are more than a stream may hold; want of memory says nothing
abbrev pub TallyEnds : Result Tally TallyFault → Result Market FileFault → List ℕ → Type 0
TallyEnds (Ok tally) (Ok market) all = IsTally market all tally
TallyEnds (Ok tally) (Err fault) all = ⊥
TallyEnds (Err (Refuses named)) (Ok market) all = ⊥
TallyEnds (Err (Refuses named)) (Err fault) all = (named ≡ fault) × (fault ≢ FileMemory)
TallyEnds (Err TooMany) (Ok market) all = ¬ AreWithin all
TallyEnds (Err TooMany) (Err fault) all = ⊥
TallyEnds (Err Memory) (Ok market) all = ⊤
TallyEnds (Err Memory) (Err fault) all = ⊤
