-- A disk in memory: what happened to it, and what its files are by that.
use Rattle.std.specs.Prelude.{◌≡◌, ◌⊎◌, ℕ, ◌+◌, ◌-◌, ◌^◌, ◌≤◌, min, List, [], ◌∷◌, ◌++◌, length, take, replicate, Option, unwrap_or, if◌then◌else◌, bytes_eq, string_bytes, Contains, Result, OnOk, OnErr}
use Rattle.mk_disk.specs.declared.event.Event.{Event}
use Rattle.mk_disk.specs.declared.event.Event.TheVariants.{Write, Fault, Sync, Crash}
use Rattle.mk_disk.specs.declared.event.Choice.{Choice}
use Rattle.mk_disk.specs.declared.event.Choice.TheVariants.{Old, New, Noise}
use Rattle.mk_disk.specs.Disk.{overwritten}
use Rattle.mk_disk.specs.Image.{IsImageOf}

-- what a read gives, what the last sync made durable, what is written with 1 in place of each byte since, and the
-- ranges written since, the newest first
pub record FileState : Type 0 where
  pub seen : List ℕ
  pub durable : List ℕ
  pub noise : List ℕ
  pub ranges : List (ℕ × ℕ)

-- a file of which all bytes are durable
abbrev pub rested : List ℕ → FileState
rested bytes = record { seen = bytes; durable = bytes; noise = bytes; ranges = [] }

abbrev pub chosen : Choice → FileState → List ℕ
chosen Old s = s.durable
chosen New s = s.seen
chosen Noise s = s.noise

abbrev pub faulted : ℕ → ℕ → FileState → FileState
faulted at len s =
    record { seen = s.seen; durable = s.durable; noise = overwritten at (replicate len 1) s.noise; ranges = (at, len) ∷ s.ranges }

abbrev pub written : ℕ → List ℕ → FileState → FileState
written at bytes s =
    record { seen = overwritten at bytes s.seen; durable = s.durable; noise = overwritten at (replicate (length bytes) 1) s.noise; ranges = (at, length bytes) ∷ s.ranges }

-- what a write into the file of one name does to that of another, and one that fails, and a sync: a write begins within
-- the file
abbrev pub wrote : List ℕ → ℕ → List ℕ → List ℕ → FileState → FileState
wrote of at bytes name s = if bytes_eq of name then written (min at (length s.seen)) bytes s else s

abbrev pub faulted_in : List ℕ → ℕ → ℕ → List ℕ → FileState → FileState
faulted_in of at len name s = if bytes_eq of name then faulted (min at (length s.seen)) len s else s

abbrev pub synced : List ℕ → List ℕ → FileState → FileState
synced of name s = if bytes_eq of name then rested s.seen else s

-- the file of a name after one event more
abbrev pub after_event : List ℕ → Event → FileState → FileState
after_event name (Write of at bytes) s = wrote (string_bytes of) at bytes.items name s
after_event name (Fault of at len) s = faulted_in (string_bytes of) at len name s
after_event name (Sync of) s = synced (string_bytes of) name s
after_event name (Crash choice) s = rested (chosen choice s)

abbrev pub after_events : List ℕ → FileState → List Event → FileState
after_events name s [] = s
after_events name s (event ∷ events) = after_events name (after_event name event s) events

-- the file of a name, at first empty, after all that happened
abbrev pub file_after : List ℕ → List Event → FileState
file_after name events = after_events name (rested []) events

-- what a crash after these events may leave of the file of a name
abbrev pub IsImage : List Event → List ℕ → List ℕ → Type 0
IsImage events name c = IsImageOf (file_after name events).durable (file_after name events).ranges c

-- what a crash after some of these events, t or more, might have left
pub record WasImage (events : List Event) (name : List ℕ) (t : ℕ) (c : List ℕ) : Type 0 where
  pub count : ℕ
  pub since : t ≤ count
  pub within : count ≤ length events
  pub image : IsImage (take count events) name c

-- the calls so far: the numbers of those that are to fail, how many calls there were, how many of them failed, and how
-- many of these for want of memory
pub record Called : Type 0 where
  pub failing : List ℕ
  pub count : ℕ
  pub faults : ℕ
  pub wanting : ℕ

-- one more, up to the last value of a u64
abbrev pub one_more : ℕ → ℕ
one_more n = min (n + 1) (2 ^ 64 - 1)

abbrev pub uncalled : List ℕ → Called
uncalled failing = record { failing = failing; count = 0; faults = 0; wanting = 0 }

-- a call was made; it failed as it was to; it failed for want of memory
abbrev pub counted : Called → Called
counted calls = record calls { count = one_more calls.count }

abbrev pub failed : Called → Called
failed calls = record calls { faults = one_more calls.faults }

abbrev pub starved : Called → Called
starved calls = record calls { faults = one_more calls.faults; wanting = one_more calls.wanting }

-- the next call is one that is to fail
abbrev pub IsFailing : Called → Type 0
IsFailing calls = Contains calls.failing (one_more calls.count)

-- a call is counted; it fails where it is to, and else only for want of memory, and both are counted
pub record IsCalled {T E : Type 0} (old new : Called) (result : Result T E) : Type 0 where
  pub later : old.faults ≤ new.faults
  pub ok : OnOk result (new ≡ counted old)
  pub failing : IsFailing old → OnOk result ⊥
  pub failed : OnErr result ((IsFailing old × (new ≡ failed (counted old))) ⊎ (new ≡ starved (counted old)))

-- the disk: what happened, the open file's name, its calls, and for how many events more it has
-- copies of that name, and places
pub record MemoryState : Type 0 where
  pub events : List Event
  pub opened : Option (List ℕ)
  pub calls : Called
  pub names : ℕ
  pub places : ℕ

-- so many events more of the open file want no memory
abbrev pub room_of : MemoryState → ℕ
room_of disk = min disk.names disk.places

-- the room that an opening and a write leave: for a sync, and for a write behind it that fails
abbrev pub prepared : ℕ
prepared = 2

-- one event more happened, which does this to the file of each name
pub record Happened (old new : List Event) (step : List ℕ → FileState → FileState) : Type 0 where
  pub event : Event
  pub added : new ≡ old ++ event ∷ []
  pub after : (name : List ℕ) (s : FileState) → after_event name event s ≡ step name s

-- the name of the open file, and what a read of the file of a name gives
abbrev pub opened_name : MemoryState → List ℕ
opened_name disk = unwrap_or disk.opened []

abbrev pub seen_of : MemoryState → List ℕ → List ℕ
seen_of disk name = (file_after name disk.events).seen
