-- Where telling what waits fails, and how a run ends by it.
use Rattle.std.specs.Prelude.{◌≡◌, ℕ, Option, Some, None, Result, Ok, Err}
use Rattle.mk_io.specs.declared.status.Status.{Status}
use Rattle.mk_io.specs.declared.status.Status.TheVariants.{WriteFault, DiskFault}
use Rattle.mk_io.specs.Outside.{CountsFault}
use Rattle.mk_session.specs.declared.waiting.TellFault.{TellFault}
use Rattle.mk_session.specs.declared.waiting.TellFault.TheVariants.{Disk, Sink}
use Rattle.mk_session.specs.Outcome.{CountsNone}

-- a fault of the disk or of the sink is counted where it is named, and there is no other
abbrev pub HasTellCause : {T : Type 0} → Result T TellFault → ℕ → ℕ → ℕ → ℕ → Type 0
HasTellCause (Ok value) disk disk_now sink sink_now = CountsNone disk disk_now sink sink_now
HasTellCause (Err Disk) disk disk_now sink sink_now =
    CountsFault disk disk_now × (sink_now ≡ sink)
HasTellCause (Err Sink) disk disk_now sink sink_now =
    (disk_now ≡ disk) × CountsFault sink sink_now

-- a run goes on where a line was told of, and ends where it could not be
abbrev pub ended_by : {T : Type 0} → Result T TellFault → Option Status
ended_by (Ok value) = None
ended_by (Err Disk) = Some DiskFault
ended_by (Err Sink) = Some WriteFault

-- no fault was counted, of the disk neither
abbrev pub CountsNoFault : ℕ → ℕ → ℕ → ℕ → ℕ → ℕ → Type 0
CountsNoFault disk disk_now inputs inputs_now sink sink_now =
    (disk_now ≡ disk) × CountsNone inputs inputs_now sink sink_now
