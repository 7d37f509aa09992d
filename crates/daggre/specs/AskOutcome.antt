-- What each status says of a run behind which something is asked.
use Rattle.std.specs.Prelude.{◌≡◌, ℕ, List, ◌++◌, Option, Some, Result, Ok, Err, ◌⊎◌}
use Rattle.mk_io.specs.declared.status.Status.{Status}
use Rattle.mk_io.specs.declared.status.Status.TheVariants.{Done, Usage, MarketRefused, ReadFault}
use Rattle.mk_io.specs.declared.status.Status.TheVariants.{WriteFault, Memory, TooMany}
use Rattle.mk_io.specs.declared.status.Status.TheVariants.{DiskFault, StoreRefused}
use Rattle.mk_exact.specs.Market.{Market, present}
use Rattle.mk_file.specs.declared.fault.FileFault.{FileFault}
use Rattle.mk_file.specs.File.{file_of}
use Rattle.mk_session.specs.Outcome.{Adds, IsFrontOf, IsWhole, IsStopped, IsOverrun, IsBroken}
use Rattle.mk_session.specs.Transcript.{from_opening}
use Rattle.mk_session.specs.Outcome.{IsUnanswered, Refuses, NotOpened}
use Rattle.daggre.specs.declared.ask.Ask.{Ask}
use Rattle.daggre.specs.LastLine.{IsLastLine}

-- all commands were read to their end, and answered; behind the transcript stands the last line,
-- about the history that this very transcript leaves, in the market with what that added
pub record IsAnswered (market : Market) (ask : Ask) (all rest output : List ℕ) : Type 0 where
  pub transcript : List ℕ
  pub run : IsWhole (from_opening market) all rest transcript
  pub last : List ℕ
  pub answers : IsLastLine (present market run.transcript.after.history)
      run.transcript.after.history ask last
  pub printed : output ≡ transcript ++ last

-- writing failed: a front of such an output was written
pub record IsCut (market : Market) (ask : Ask) (all rest output : List ℕ) : Type 0 where
  pub whole : List ℕ
  pub answered : IsAnswered market ask all rest whole
  pub front : IsFrontOf whole output

-- the run of an accepted file and the last line: as without one, but that writing may also fail in
-- that line, and memory may be wanting for it, behind the whole transcript
abbrev pub ServesAsk : Status → Ask → Market → List ℕ → List ℕ → List ℕ → Type 0
ServesAsk Done ask market all rest output = IsAnswered market ask all rest output
ServesAsk ReadFault ask market all rest output = IsStopped (from_opening market) all rest output
ServesAsk WriteFault ask market all rest output =
    IsBroken (from_opening market) all rest output ⊎ IsCut market ask all rest output
ServesAsk TooMany ask market all rest output = IsOverrun (from_opening market) all rest output
ServesAsk Memory ask market all rest output =
    IsUnanswered all rest output ⊎ IsWhole (from_opening market) all rest output
ServesAsk MarketRefused ask market all rest output = ⊥
ServesAsk Usage ask market all rest output = ⊥
ServesAsk DiskFault ask market all rest output = IsBroken (from_opening market) all rest output
ServesAsk StoreRefused ask market all rest output = ⊥

-- the run of an accepted file, or of a refused one, of which no command is read
abbrev pub EndsAsk : Status → Ask → Result Market FileFault → List ℕ → List ℕ → List ℕ → Type 0
EndsAsk status ask (Ok market) all rest output = ServesAsk status ask market all rest output
EndsAsk status ask (Err fault) all rest output = Refuses status fault output × (rest ≡ all)

-- the market file was read: the run ends by the market or the fault that it gives
pub record OpenedAsk (status : Status) (ask : Ask) (given : Result Market FileFault) (all : List ℕ)
    (source before written : Option (List ℕ)) : Type 0 where
  pub rest : List ℕ
  pub told : source ≡ Some rest
  pub output : Adds before written (EndsAsk status ask given all rest)

-- a whole run over the bytes of a file and all bytes of the commands, and what is asked of its last
-- history
abbrev pub AskOutcome : Status → Ask → List ℕ → List ℕ → Option (List ℕ) → Option (List ℕ)
    → Option (List ℕ) → Type 0
AskOutcome status ask file all source before written =
    NotOpened status all source before written
    ⊎ OpenedAsk status ask (file_of file) all source before written
