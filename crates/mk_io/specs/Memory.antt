-- Inputs and a sink in memory, as plain values.
use Rattle.std.specs.Prelude.{◌≡◌, ℕ, ◌+◌, ◌-◌, ◌^◌, ◌<◌, ◌≤◌, min, List, [], ◌∷◌, length, map, Option, Some, None, slice_index_or, if◌then◌else◌, bytes_eq, string_bytes, Contains}
use Rattle.mk_io.specs.declared.memory.NamedFile.{NamedFile}

-- the calls so far: the numbers of those that fail, how many calls there were, and how many of them failed
pub record Called : Type 0 where
  pub failing : List ℕ
  pub count : ℕ
  pub faults : ℕ

abbrev pub uncalled : List ℕ → Called
uncalled failing = record { failing = failing; count = 0; faults = 0 }

-- one more, up to the last value of a u64
abbrev pub one_more : ℕ → ℕ
one_more n = min (n + 1) (2 ^ 64 - 1)

abbrev pub counted : Called → Called
counted calls = record calls { count = one_more calls.count }

abbrev pub failed : Called → Called
failed calls = record calls { faults = one_more calls.faults }

-- the next call is one that is to fail
abbrev pub IsFailing : Called → Type 0
IsFailing calls = Contains calls.failing (one_more calls.count)

-- a file's name and its bytes
abbrev pub named : NamedFile → List ℕ × List ℕ
named file = (string_bytes file.name, file.bytes.items)

-- the bytes of the first file of a name
abbrev pub file_bytes : List (List ℕ × List ℕ) → List ℕ → Option (List ℕ)
file_bytes [] name = None
file_bytes (file ∷ files) name = if bytes_eq file.0 name then Some file.1 else file_bytes files name

-- the bytes of the file at an index, or none
abbrev pub bytes_at : List (List ℕ × List ℕ) → Option ℕ → List ℕ
bytes_at files None = []
bytes_at files (Some index) = (slice_index_or files index ([], [])).1

-- what is left of an opened file begins within it
abbrev pub IsOpened : List NamedFile → Option ℕ → ℕ → Type 0
IsOpened files None at = Unit {0}
IsOpened files (Some index) at = (index < length files) × (at ≤ length (bytes_at (map named files) (Some index)))

pub record MemoryIn : Type 0 where
  pub files : List (List ℕ × List ℕ)
  pub market : List ℕ
  pub commands : List ℕ
  pub piece : ℕ
  pub calls : Called

pub record MemoryOut : Type 0 where
  pub written : List ℕ
  pub capacity : ℕ
  pub piece : ℕ
  pub calls : Called

-- how many bytes one read gives, of those that are left and for which there is room
abbrev pub piece_of : ℕ → ℕ → ℕ → ℕ
piece_of piece left room = min piece (min left room)

-- no byte more has room
abbrev pub IsFull : MemoryOut → Type 0
IsFull sink = length sink.written ≡ sink.capacity
