-- The store file: a header for one market file, and records, each behind a gate.
use Rattle.std.specs.Prelude.{◌≡◌, ◌≢◌, ◌⊎◌, ℕ, ◌+◌, ◌<◌, ◌≤◌, List, [], ◌∷◌, ◌++◌, length, Option, Some, None, if◌then◌else◌, ◌==◌, All}
use Rattle.std.specs.Int.{w32, w64, to_be_bytes}
use Rattle.mk_names.specs.declared.limits.TheConstants.{MAX_RECORD_BYTES}

-- the number of bytes that a record may have
pub record IsLength (n : ℕ) : Type 0 where
  pub least : 1 ≤ n
  pub most : n ≤ MAX_RECORD_BYTES

abbrev pub AreRecords : List (List ℕ) → Type 0
AreRecords records = All (λ r. IsLength (length r)) records

-- a record with its length before it
unfoldable pub framed : List ℕ → List ℕ
framed r = to_be_bytes w32 (length r) ++ r

-- these records, each behind an open gate
abbrev pub opened : List (List ℕ) → List ℕ
opened [] = []
opened (r ∷ records) = 1 ∷ (framed r ++ opened records)

-- the text DAGGRE01
abbrev pub magic : List ℕ
magic = 68 ∷ 65 ∷ 71 ∷ 71 ∷ 82 ∷ 69 ∷ 48 ∷ 49 ∷ []

-- what stands behind the header's gate
unfoldable pub header : List ℕ → List ℕ
header market = magic ++ (to_be_bytes w64 (length market) ++ market)

-- these bytes begin with these records, which a closed gate ends, whatever stands behind it
pub record Holds (records : List (List ℕ)) (bytes : List ℕ) : Type 0 where
  pub gate : ℕ
  pub rest : List ℕ
  pub closed : gate ≢ 1
  pub are : AreRecords records
  pub bytes_are : bytes ≡ opened records ++ gate ∷ rest

-- no record and next gate stand at the front of these bytes
abbrev pub NoRecord : List ℕ → Type 0
NoRecord bytes = (r rest : List ℕ) → IsLength (length r) → 0 < length rest → bytes ≡ framed r ++ rest → ⊥

-- these bytes begin with these records, and then behind an open gate there is none
pub record Breaks (records : List (List ℕ)) (bytes : List ℕ) : Type 0 where
  pub rest : List ℕ
  pub are : AreRecords records
  pub bytes_are : bytes ≡ opened records ++ 1 ∷ rest
  pub none : NoRecord rest

-- the header's gate is the byte 0, and no more than a header and one byte stand behind it
pub record IsCleared (market file : List ℕ) : Type 0 where
  pub rest : List ℕ
  pub file_is : file ≡ 0 ∷ rest
  pub short : length rest ≤ length market + 17

-- this market's header stands behind a closed gate, and one byte behind it
pub record IsWritten (market file : List ℕ) : Type 0 where
  pub gate : ℕ
  pub last : ℕ
  pub closed : gate ≢ 1
  pub file_is : file ≡ gate ∷ (header market ++ last ∷ [])

-- a file that has no header yet: what a crash of an opening can leave before the header's gate is open
abbrev pub IsUnstarted : List ℕ → List ℕ → Type 0
IsUnstarted market file = (length file ≤ 1) ⊎ (IsCleared market file ⊎ IsWritten market file)

-- a file with this market's header, which holds these records
pub record IsStarted (market : List ℕ) (records : List (List ℕ)) (file : List ℕ) : Type 0 where
  pub rest : List ℕ
  pub file_is : file ≡ 1 ∷ (header market ++ rest)
  pub holds : Holds records rest

-- the file stands for these records
abbrev pub StandsFor : List ℕ → List (List ℕ) → List ℕ → Type 0
StandsFor market records file = (IsUnstarted market file × (records ≡ [])) ⊎ IsStarted market records file

-- the first place, counted from one on, where bytes of a header are missing or differ, or where nothing stands behind it
abbrev pub foreign_from : ℕ → List ℕ → List ℕ → Option ℕ
foreign_from at [] [] = Some at
foreign_from at [] (b ∷ bytes) = None
foreign_from at (h ∷ head) [] = Some at
foreign_from at (h ∷ head) (b ∷ bytes) = if h == b then foreign_from (at + 1) head bytes else Some at

-- a closed gate begins a file that is none of those without a header
pub record IsNoStore (market file : List ℕ) : Type 0 where
  pub gate : ℕ
  pub rest : List ℕ
  pub closed : gate ≢ 1
  pub file_is : file ≡ gate ∷ rest
  pub not_new : IsUnstarted market file → ⊥

-- an open gate begins a file of more bytes, and at this place this market's header ends or differs
pub record IsOfAnother (market file : List ℕ) (at : ℕ) : Type 0 where
  pub rest : List ℕ
  pub some : 0 < length rest
  pub file_is : file ≡ 1 ∷ rest
  pub differs : foreign_from 1 (header market) rest ≡ Some at

-- the file belongs to another market, or is no store, from this place on
abbrev pub IsForeign : List ℕ → List ℕ → ℕ → Type 0
IsForeign market file at = (IsNoStore market file × (at ≡ 0)) ⊎ IsOfAnother market file at

-- a file with this market's header, which holds these records, and behind the next open gate no record
pub record IsBroken (market : List ℕ) (records : List (List ℕ)) (file : List ℕ) : Type 0 where
  pub rest : List ℕ
  pub file_is : file ≡ 1 ∷ (header market ++ rest)
  pub breaks : Breaks records rest

-- the file is this market's, and no record in it is malformed
pub record IsHonest (market file : List ℕ) : Type 0 where
  pub own : (at : ℕ) → IsForeign market file at → ⊥
  pub whole : (records : List (List ℕ)) → IsBroken market records file → ⊥

-- what an append writes behind the closed gate: the first record of a group, the others each behind an open gate, and
-- the next gate closed
abbrev pub chained : List ℕ → List (List ℕ) → List ℕ
chained r group = framed r ++ (opened group ++ 0 ∷ [])

-- the file stands for these records, with a group more or without it
abbrev pub IsWithOrWithout : List ℕ → List (List ℕ) → List (List ℕ) → List ℕ → Type 0
IsWithOrWithout market records group file = IsStarted market records file ⊎ IsStarted market (records ++ group) file

-- the bytes before the gate that follows these records
abbrev pub before_gate : List ℕ → List (List ℕ) → List ℕ
before_gate market records = 1 ∷ (header market ++ opened records)

-- this market's header behind its gate, and the first gate closed
abbrev pub begun : List ℕ → List ℕ
begun market = header market ++ 0 ∷ []
