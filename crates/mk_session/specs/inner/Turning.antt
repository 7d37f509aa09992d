-- What a turn of a run leaves, which answers one line: the run goes on, or ends.
use Rattle.std.specs.Prelude.{◌≡◌, ℕ, ◌+◌, ◌^◌, ◌<◌, ◌≤◌, List, length, Option, Some, None}
use Rattle.mk_io.specs.declared.status.Status.{Status}
use Rattle.mk_io.specs.declared.status.Status.TheVariants.{Done, ReadFault, TooMany}
use Rattle.mk_io.specs.declared.lines.Next.{Next}
use Rattle.mk_io.specs.declared.lines.Next.TheVariants.{Line, Long, End, ReadFault as Unread}
use Rattle.mk_io.specs.declared.lines.Next.TheVariants.{TooMany as Overrun}
use Rattle.mk_io.specs.Stream.{max_stream_lines}
use Rattle.mk_io.specs.Cutting.{Cutting, GoesOn}
use Rattle.mk_exact.specs.Market.{Market}
use Rattle.mk_rules.specs.Transcript.{Standing}
use Rattle.mk_session.specs.Transcript.{Start}
use Rattle.mk_session.specs.Outcome.{HasKeepCauses, EndsRun}
use Rattle.mk_session.specs.Left.{LeavesSince, IsLeft}
use Rattle.mk_session.specs.inner.Telling.{CountsNoFault}
use Rattle.mk_session.specs.inner.Progress.{IsSoFar, IsEnded}
use Rattle.mk_session.specs.inner.Keeping.{HoldsSince, IsHeldSoFar}

-- where a run is: what was read, answered and written, what waits, and which faults were counted
pub record Moment : Type 0 where
  pub lines : Cutting
  pub source : Option (List ℕ)
  pub standing : Standing
  pub written : Option (List ℕ)
  pub waits : List ℕ
  pub disk : ℕ
  pub inputs : ℕ
  pub sink : ℕ

abbrev pub moment : {D I S : Type 0} → (D → ℕ) → (I → Option (List ℕ)) → (I → ℕ)
    → (S → Option (List ℕ)) → (S → ℕ) → Cutting → Standing → List ℕ → D → I → S → Moment
moment disk_faults commands faults written sink_faults lines standing waits disk inputs out =
    record {
      lines = lines;
      source = commands inputs;
      standing = standing;
      written = written out;
      waits = waits;
      disk = disk_faults disk;
      inputs = faults inputs;
      sink = sink_faults out;
    }

-- the changes that are held since a run began on a disk, in the store of a name and of a market
abbrev pub holding : {D K : Type 0}
    → (K → D → List ℕ → List ℕ → List (List ℕ) → List (List ℕ) → Type 0)
    → (D → D → List ℕ → List ℕ → List (List ℕ) → ℕ → Type 0) → K → D → D → List ℕ → List ℕ
    → ℕ → ℕ → List (List ℕ) → Type 0
holding holds passes keeper disk begun name market first least all =
    HoldsSince (holds keeper disk name market) (passes begun disk name market) first least all

-- and those that a crash leaves
abbrev pub leaving : {D : Type 0} → (D → List ℕ → List ℕ → List (List ℕ) → ℕ → Type 0)
    → (D → D → List ℕ → List ℕ → List (List ℕ) → ℕ → Type 0) → D → D → List ℕ → List ℕ
    → ℕ → List (List ℕ) → ℕ → Type 0
leaving leaves passes disk begun name market first all least =
    LeavesSince (leaves disk name market) (passes begun disk name market) first all least

-- the run goes on, one line further: no fault was counted
pub record GoesFurther {D : Type 0} (is_at : Market → Type 0) (old new : Moment)
    (is_ready is_ready' : ℕ → Type 0)
    (holds holds' : D → List ℕ → List ℕ → ℕ → ℕ → List (List ℕ) → Type 0) : Type 0 where
  pub goes_on : GoesOn new.lines.last
  pub counts : new.lines.given ≡ old.lines.given + 1
  pub within : new.lines.given ≤ max_stream_lines
  pub ready : (n : ℕ) → n + 1 < 2 ^ 40 → is_ready n → is_ready' (n + 1)
  pub no_fault : CountsNoFault old.disk new.disk old.inputs new.inputs old.sink new.sink
  pub so_far : (start : Start) (all : List ℕ) (before : Option (List ℕ)) → is_at start.market
      → IsSoFar start all old.lines old.source old.standing before old.written old.waits
      → IsSoFar start all new.lines new.source new.standing before new.written new.waits
  pub held : (start : Start) (begun : D) (name bytes all : List ℕ) (before : Option (List ℕ))
      (kept : List (List ℕ)) → is_at start.market
      → IsHeldSoFar start all old.lines old.source old.standing before old.written old.waits kept
      (holds begun name bytes (length kept))
      → IsHeldSoFar start all new.lines new.source new.standing before new.written new.waits kept
      (holds' begun name bytes (length kept))

-- the run ends
pub record EndsThere {D : Type 0} (end : Status) (is_at : Market → Type 0) (old new : Moment)
    (holds : D → List ℕ → List ℕ → ℕ → ℕ → List (List ℕ) → Type 0)
    (leaves : D → List ℕ → List ℕ → ℕ → List (List ℕ) → ℕ → Type 0) : Type 0 where
  pub ends : EndsRun end
  pub causes : HasKeepCauses end old.disk new.disk old.inputs new.inputs old.sink new.sink
  pub ended : (start : Start) (all : List ℕ) (before : Option (List ℕ)) → is_at start.market
      → IsSoFar start all old.lines old.source old.standing before old.written old.waits
      → IsEnded end start new.standing all new.source before new.written
  pub left : (start : Start) (begun : D) (name bytes all : List ℕ) (before : Option (List ℕ))
      (kept : List (List ℕ)) → is_at start.market
      → IsHeldSoFar start all old.lines old.source old.standing before old.written old.waits kept
      (holds begun name bytes (length kept))
      → IsLeft start all before new.written kept (leaves begun name bytes (length kept))

abbrev pub Turns : {D : Type 0} → Option Status → (Market → Type 0) → Moment → Moment
    → (ℕ → Type 0) → (ℕ → Type 0)
    → (D → List ℕ → List ℕ → ℕ → ℕ → List (List ℕ) → Type 0)
    → (D → List ℕ → List ℕ → ℕ → ℕ → List (List ℕ) → Type 0)
    → (D → List ℕ → List ℕ → ℕ → List (List ℕ) → ℕ → Type 0) → Type 0
Turns None is_at old new is_ready is_ready' holds holds' leaves =
    GoesFurther is_at old new is_ready is_ready' holds holds'
Turns (Some end) is_at old new is_ready is_ready' holds holds' leaves =
    EndsThere end is_at old new holds leaves

-- how a run ends by an answer that gives no line
abbrev pub ended_at : Next → Option Status
ended_at Line = None
ended_at Long = None
ended_at End = Some Done
ended_at Unread = Some ReadFault
ended_at Overrun = Some TooMany
