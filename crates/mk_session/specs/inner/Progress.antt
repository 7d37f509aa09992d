-- How far a run has come: what each line leaves, and what stands between two lines. A market that
-- is named beside a standing is the file's.
use Rattle.std.specs.Prelude.{◌≡◌, ℕ, List, [], ◌++◌, length, Option, Some, None, ◌⊎◌}
use Rattle.mk_io.specs.declared.status.Status.{Status}
use Rattle.mk_io.specs.declared.status.Status.TheVariants.{Done}
use Rattle.mk_io.specs.declared.lines.Next.{Next}
use Rattle.mk_io.specs.Outside.{append_known}
use Rattle.mk_io.specs.Stream.{StreamLine, stream_lines, AreWholeLines}
use Rattle.mk_io.specs.Cutting.{Cutting, HoldsLine, stream_left}
use Rattle.mk_exact.specs.Market.{Market, present}
use Rattle.mk_exact.specs.Sound.{IsSound}
use Rattle.mk_rules.specs.Transcript.{Standing}
use Rattle.mk_command.specs.declared.command.Command.{Command}
use Rattle.mk_reply.specs.declared.reply.Reply.{Reply}
use Rattle.mk_market.specs.Trading.{Trading, IsAt, IsAnswered}
use Rattle.mk_session.specs.Texts.{reply_line}
use Rattle.mk_session.specs.Transcript.{Start, AreAnswered}
use Rattle.mk_session.specs.Begins.{CanBegin}
use Rattle.mk_session.specs.Complete.{AreWithin}
use Rattle.mk_session.specs.Outcome.{Adds, Serves, IsWholeTo}

-- some bytes came behind those that waited, and a first part of them all was written; the others
-- wait
pub record Gathers (before after : Option (List ℕ)) (waited bytes waits : List ℕ) : Type 0 where
  pub gone : List ℕ
  pub added : after ≡ append_known before gone
  pub parts : waited ++ bytes ≡ gone ++ waits

-- the history of a standing is sound in the market with what was added so far
abbrev pub IsSoundAt : Market → Standing → Type 0
IsSoundAt market now = IsSound (present market now.history).network now.history

-- a market answered a command by a reply, whose line this is
pub record IsPrinted {Own : Type 0} (old new : Trading Own) (command : Command)
    (line : List ℕ) : Type 0 where
  pub reply : Reply
  pub answered : IsAnswered old new command reply
  pub printed : line ≡ reply_line reply

-- some lines are answered, once the history before them is sound, and their answers are written or
-- wait
pub record AreGathered (market : Market) (old : Standing) (lines : List StreamLine) (new : Standing)
    (before after : Option (List ℕ))
    (waited waits : List ℕ) : Type 0 where
  pub output : List ℕ
  pub answered : IsSoundAt market old → AreAnswered market old lines new output
  pub gathers : Gathers before after waited output waits

-- the next line is there without a read, or nothing waits
abbrev pub IsReady : Cutting → List ℕ → Type 0
IsReady cutting waits = HoldsLine cutting ⊎ (waits ≡ [])

-- where no answer stays, the bytes before the place are whole lines; where one does, nothing is
-- left
abbrev pub IsBetween : Option Next → List ℕ → List ℕ → Type 0
IsBetween None done left = AreWholeLines done
IsBetween (Some last) done left = left ≡ []

-- between two lines: something holds of the lines of some bytes, and the other bytes are left
pub record IsPlaced (all : List ℕ) (cutting : Cutting) (source : Option (List ℕ))
    (P : List StreamLine → Type 0) : Type 0 where
  pub done : List ℕ
  pub left : List ℕ
  pub bytes : all ≡ done ++ left
  pub known : stream_left cutting source ≡ Some left
  pub between : IsBetween cutting.last done left
  pub answers : P (stream_lines done)
  pub given : cutting.given ≡ length (stream_lines done)
  pub spent : cutting.spent ≡ length done
  pub within : AreWithin done

-- the lines of a run are answered, and the head and the answers are written but for the last bytes,
-- which wait
pub record AreSaid (start : Start) (lines : List StreamLine) (now : Standing)
    (before written : Option (List ℕ)) (waits : List ℕ) : Type 0 where
  pub begins : CanBegin start.market start.standing
  pub bytes : List ℕ
  pub added : written ≡ append_known before bytes
  pub answers : List ℕ
  pub answered : AreAnswered start.market start.standing lines now answers
  pub printed : bytes ++ waits ≡ start.head ++ answers

-- the lines before the place are answered, and the answers are written but for the last bytes,
-- which wait
abbrev pub IsSoFar : Start → List ℕ → Cutting → Option (List ℕ) → Standing → Option (List ℕ)
    → Option (List ℕ) → List ℕ → Type 0
IsSoFar start all cutting source now before written waits =
    IsPlaced all cutting source (λ lines. AreSaid start lines now before written waits)

-- before the first line: a market stands as the run begins, all commands are told, and the head is
-- written
pub record IsBegun {Own : Type 0} (start : Start) (trading : Trading Own) (all : List ℕ)
    (source before written : Option (List ℕ)) : Type 0 where
  pub market : IsAt start.market trading
  pub standing : trading.standing ≡ start.standing
  pub begins : CanBegin start.market start.standing
  pub told : source ≡ Some all
  pub headed : written ≡ append_known before start.head

-- the run of an opened market, which leaves this standing where it is done
abbrev pub ServesTo : Status → Start → Standing → List ℕ → List ℕ → List ℕ → Type 0
ServesTo Done start now all rest output = IsWholeTo start now all rest output
ServesTo status start now all rest output = Serves status start all rest output

-- the end of a run, and the standing that it leaves
pub record IsEnded (status : Status) (start : Start) (now : Standing) (all : List ℕ)
    (source before written : Option (List ℕ)) : Type 0 where
  pub rest : List ℕ
  pub told : source ≡ Some rest
  pub output : Adds before written (ServesTo status start now all rest)
