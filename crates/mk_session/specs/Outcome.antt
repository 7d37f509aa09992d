-- What each status says of a run.
use Rattle.std.specs.Prelude.{◌≡◌, ◌≢◌, ℕ, ◌+◌, ◌<◌, List, [], ◌++◌, length, Option, Some, All, ◌⊎◌}
use Rattle.std.specs.Prelude.{Result, Ok, Err, ⊤}
use Rattle.mk_io.specs.declared.status.Status.{Status}
use Rattle.mk_io.specs.declared.status.Status.TheVariants.{Done, Usage, MarketRefused, ReadFault}
use Rattle.mk_io.specs.declared.status.Status.TheVariants.{WriteFault, Memory, TooMany}
use Rattle.mk_io.specs.declared.status.Status.TheVariants.{DiskFault, StoreRefused}
use Rattle.mk_io.specs.Outside.{append_known, CountsFault}
use Rattle.mk_io.specs.Stream.{stream_lines, AreWholeLines, max_stream_lines, max_stream_bytes}
use Rattle.mk_io.specs.Cutting.{first_size}
use Rattle.mk_exact.specs.Market.{Market}
use Rattle.mk_file.specs.declared.fault.FileFault.{FileFault}
use Rattle.mk_file.specs.File.{file_of}
use Rattle.mk_rules.specs.Transcript.{Standing}
use Rattle.mk_market.specs.Trading.{Trading, IsAt}
use Rattle.mk_session.specs.Texts.{fault_line}
use Rattle.mk_session.specs.Complete.{AreWithin}
use Rattle.mk_session.specs.Transcript.{Start, from_opening, Transcript}

-- some bytes with a fact about them were added, and no others
pub record Adds (before after : Option (List ℕ)) (P : List ℕ → Type 0) : Type 0 where
  pub bytes : List ℕ
  pub added : after ≡ append_known before bytes
  pub holds : P bytes

-- a front of some bytes
pub record IsFrontOf (whole front : List ℕ) : Type 0 where
  pub rest : List ℕ
  pub parts : whole ≡ front ++ rest

-- all commands were read to their end, and answered
pub record IsWhole (start : Start) (all rest output : List ℕ) : Type 0 where
  pub transcript : Transcript start (stream_lines all) output
  pub to_the_end : rest ≡ []
  pub within : AreWithin all

-- the same, and this is the standing behind the replies
pub record IsWholeTo (start : Start) (after : Standing) (all rest output : List ℕ) : Type 0 where
  pub whole : IsWhole start all rest output
  pub stands : whole.transcript.after ≡ after

-- reading failed: the whole lines that were read are answered, and the part of a line behind them
-- is not
pub record IsStopped (start : Start) (all rest output : List ℕ) : Type 0 where
  pub whole : List ℕ
  pub part : List ℕ
  pub bytes : all ≡ whole ++ (part ++ rest)
  pub lines : AreWholeLines whole
  pub no_lf : All (λ b. b ≢ 10) part
  pub within : AreWithin whole
  pub transcript : Transcript start (stream_lines whole) output

-- there are too many lines or bytes: the whole lines before the one that is too much are answered
pub record IsOverrun (start : Start) (all rest output : List ℕ) : Type 0 where
  pub whole : List ℕ
  pub part : List ℕ
  pub bytes : all ≡ whole ++ (part ++ rest)
  pub lines : AreWholeLines whole
  pub more : 0 < length (part ++ rest)
  pub past : (length (stream_lines whole) ≡ max_stream_lines)
      ⊎ (max_stream_bytes < length whole + first_size (part ++ rest))
  pub within : AreWithin whole
  pub transcript : Transcript start (stream_lines whole) output

-- writing or keeping failed: a front of the transcript of some first lines was written
pub record IsBroken (start : Start) (all rest output : List ℕ) : Type 0 where
  pub done : List ℕ
  pub part : List ℕ
  pub bytes : all ≡ done ++ (part ++ rest)
  pub lines : AreWholeLines done ⊎ (part ++ rest ≡ [])
  pub within : AreWithin done
  pub text : List ℕ
  pub transcript : Transcript start (stream_lines done) text
  pub front : IsFrontOf text output

-- nothing was written, and no command was read
pub record IsUnanswered (all rest output : List ℕ) : Type 0 where
  pub nothing : output ≡ []
  pub unread : rest ≡ all

-- the run of an opened market: its commands, what is left of them, and the output
abbrev pub Serves : Status → Start → List ℕ → List ℕ → List ℕ → Type 0
Serves Done start all rest output = IsWhole start all rest output
Serves ReadFault start all rest output = IsStopped start all rest output
Serves WriteFault start all rest output = IsBroken start all rest output
Serves TooMany start all rest output = IsOverrun start all rest output
Serves DiskFault start all rest output = IsBroken start all rest output
Serves Memory start all rest output = IsUnanswered all rest output
Serves MarketRefused start all rest output = ⊥
Serves Usage start all rest output = ⊥
Serves StoreRefused start all rest output = ⊥

-- what is written of a refused file: its one line
abbrev pub Refuses : Status → FileFault → List ℕ → Type 0
Refuses MarketRefused fault output = output ≡ fault_line fault
Refuses WriteFault fault output = IsFrontOf (fault_line fault) output
Refuses Memory fault output = output ≡ []
Refuses ReadFault fault output = ⊥
Refuses Done fault output = ⊥
Refuses TooMany fault output = ⊥
Refuses Usage fault output = ⊥
Refuses DiskFault fault output = ⊥
Refuses StoreRefused fault output = ⊥

-- the run of an accepted file, or of a refused one, of which no command is read
abbrev pub Ends : Status → Result Market FileFault → List ℕ → List ℕ → List ℕ → Type 0
Ends status (Ok market) all rest output = Serves status (from_opening market) all rest output
Ends status (Err fault) all rest output = Refuses status fault output × (rest ≡ all)

-- the market file could not be read: nothing was written, and no command was read
pub record NotOpened (status : Status) (all : List ℕ)
    (source before written : Option (List ℕ)) : Type 0 where
  pub failed : status ≡ ReadFault
  pub unread : source ≡ Some all
  pub nothing : written ≡ before

-- the market file was read: the run ends by the market or the fault that it gives
pub record Opened (status : Status) (given : Result Market FileFault) (all : List ℕ)
    (source before written : Option (List ℕ)) : Type 0 where
  pub rest : List ℕ
  pub told : source ≡ Some rest
  pub output : Adds before written (Ends status given all rest)

-- the run of a market that was opened: it ends as its status says
pub record IsServed (status : Status) (start : Start) (all : List ℕ)
    (source before written : Option (List ℕ)) : Type 0 where
  pub rest : List ℕ
  pub told : source ≡ Some rest
  pub output : Adds before written (Serves status start all rest)

-- a whole run, which leaves this standing
pub record IsRunFrom (start : Start) (after : Standing) (all : List ℕ)
    (source before written : Option (List ℕ)) : Type 0 where
  pub rest : List ℕ
  pub told : source ≡ Some rest
  pub output : Adds before written (IsWholeTo start after all rest)

abbrev pub IsRunTo : Market → Standing → List ℕ → Option (List ℕ) → Option (List ℕ)
    → Option (List ℕ) → Type 0
IsRunTo market after all source before written =
    IsRunFrom (from_opening market) after all source before written

-- a market is handed back behind a whole run: it is the file's with what was added, and stands as
-- the replies that were written leave it
pub record IsHandedBack {Own : Type 0} (back : Trading Own) (given : Result Market FileFault)
    (all : List ℕ) (source before written : Option (List ℕ)) : Type 0 where
  pub market : Market
  pub accepted : given ≡ Ok market
  pub at : IsAt market back
  pub run : IsRunTo market back.standing all source before written

-- the run of a refused file, whatever is told of the commands, of which none is read: the file
-- could not be read and nothing was written, or what was written is its one line
pub record IsTurnedAway (status : Status) (fault : FileFault)
    (source left before written : Option (List ℕ)) : Type 0 where
  pub unread : left ≡ source
  pub output : ((status ≡ ReadFault) × (written ≡ before))
      ⊎ Adds before written (Refuses status fault)

-- a whole run over the bytes of a file and all bytes of the commands: what its status says of the
-- commands that are left and of the output
abbrev pub Outcome : Status → List ℕ → List ℕ → Option (List ℕ) → Option (List ℕ) → Option (List ℕ)
    → Type 0
Outcome status file all source before written =
    NotOpened status all source before written
    ⊎ Opened status (file_of file) all source before written

-- the status of a run that hands its market back where it is done
abbrev pub status_of : {M : Type 0} → Result M Status → Status
status_of (Ok market) = Done
status_of (Err status) = status

-- no fault was counted
abbrev pub CountsNone : ℕ → ℕ → ℕ → ℕ → Type 0
CountsNone inputs inputs_now sink sink_now = (inputs_now ≡ inputs) × (sink_now ≡ sink)

-- a fault of the inputs is a read fault and one of the sink a write fault, and there is none under
-- any other status
abbrev pub HasCauses : Status → ℕ → ℕ → ℕ → ℕ → Type 0
HasCauses ReadFault inputs inputs_now sink sink_now =
    CountsFault inputs inputs_now × (sink_now ≡ sink)
HasCauses WriteFault inputs inputs_now sink sink_now =
    (inputs_now ≡ inputs) × CountsFault sink sink_now
HasCauses Done inputs inputs_now sink sink_now = CountsNone inputs inputs_now sink sink_now
HasCauses Usage inputs inputs_now sink sink_now = CountsNone inputs inputs_now sink sink_now
HasCauses MarketRefused inputs inputs_now sink sink_now = CountsNone inputs inputs_now sink sink_now
HasCauses Memory inputs inputs_now sink sink_now = CountsNone inputs inputs_now sink sink_now
HasCauses TooMany inputs inputs_now sink sink_now = CountsNone inputs inputs_now sink sink_now
HasCauses DiskFault inputs inputs_now sink sink_now = ⊥
HasCauses StoreRefused inputs inputs_now sink sink_now = ⊥

-- the causes of a run over a disk: a fault of the disk is a disk fault, and there is none under any
-- other status
abbrev pub HasKeepCauses : Status → ℕ → ℕ → ℕ → ℕ → ℕ → ℕ → Type 0
HasKeepCauses DiskFault disk disk_now inputs inputs_now sink sink_now =
    CountsFault disk disk_now × CountsNone inputs inputs_now sink sink_now
HasKeepCauses StoreRefused disk disk_now inputs inputs_now sink sink_now =
    (disk_now ≡ disk) × CountsNone inputs inputs_now sink sink_now
HasKeepCauses Done disk disk_now inputs inputs_now sink sink_now =
    (disk_now ≡ disk) × HasCauses Done inputs inputs_now sink sink_now
HasKeepCauses Usage disk disk_now inputs inputs_now sink sink_now =
    (disk_now ≡ disk) × HasCauses Usage inputs inputs_now sink sink_now
HasKeepCauses MarketRefused disk disk_now inputs inputs_now sink sink_now =
    (disk_now ≡ disk) × HasCauses MarketRefused inputs inputs_now sink sink_now
HasKeepCauses ReadFault disk disk_now inputs inputs_now sink sink_now =
    (disk_now ≡ disk) × HasCauses ReadFault inputs inputs_now sink sink_now
HasKeepCauses WriteFault disk disk_now inputs inputs_now sink sink_now =
    (disk_now ≡ disk) × HasCauses WriteFault inputs inputs_now sink sink_now
HasKeepCauses Memory disk disk_now inputs inputs_now sink sink_now =
    (disk_now ≡ disk) × HasCauses Memory inputs inputs_now sink sink_now
HasKeepCauses TooMany disk disk_now inputs inputs_now sink sink_now =
    (disk_now ≡ disk) × HasCauses TooMany inputs inputs_now sink sink_now

-- how the run of a market that was opened may end
abbrev pub EndsRun : Status → Type 0
EndsRun Done = ⊤
EndsRun ReadFault = ⊤
EndsRun WriteFault = ⊤
EndsRun TooMany = ⊤
EndsRun DiskFault = ⊤
EndsRun Usage = ⊥
EndsRun MarketRefused = ⊥
EndsRun Memory = ⊥
EndsRun StoreRefused = ⊥
