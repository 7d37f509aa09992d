-- What the front of a file says of it, and what its records are.
use Rattle.std.specs.Prelude.{◌≡◌, ℕ, ◌+◌, ◌<◌, ◌≤◌, List, ◌∷◌, ◌++◌, length}
use Rattle.mk_journal.specs.declared.read.End.{End}
use Rattle.mk_journal.specs.declared.read.End.TheVariants.{Gate, Malformed}
use Rattle.mk_journal.specs.declared.read.Found.{Found}
use Rattle.mk_journal.specs.declared.front.Unstarted.{Unstarted}
use Rattle.mk_journal.specs.declared.front.Unstarted.TheVariants.{Short, Cleared, Written}
use Rattle.mk_journal.specs.declared.front.Kind.{Kind}
use Rattle.mk_journal.specs.declared.front.Kind.TheVariants.{New, Own, Alien}
use Rattle.mk_journal.specs.Store.{header, opened, Holds, Breaks, IsCleared, IsUnstarted, IsForeign}
use Rattle.mk_journal.specs.Opening.{contents}

-- this market's header stands behind the first byte
pub record HasHeader (market file : List ℕ) : Type 0 where
  pub gate : ℕ
  pub tail : List ℕ
  pub file_is : file ≡ gate ∷ (header market ++ tail)

-- which of the files without a header it is
abbrev pub IsUnstartedAs : List ℕ → List ℕ → Unstarted → Type 0
IsUnstartedAs market file Short = length file ≤ 1
IsUnstartedAs market file Cleared = IsCleared market file
IsUnstartedAs market file Written = HasHeader market file × IsUnstarted market file

-- a file of so many bytes has room for the next write, of a body of this size
abbrev pub HasRoom : Unstarted → ℕ → ℕ → Type 0
HasRoom Short size len = Unit {0}
HasRoom Cleared size len = 1 ≤ len
HasRoom Written size len = size ≤ len

-- this market's header stands behind an open gate, and a byte behind it
pub record IsOwn (market file : List ℕ) : Type 0 where
  pub rest : List ℕ
  pub some : 0 < length rest
  pub file_is : file ≡ 1 ∷ (header market ++ rest)

-- what a file is to a market
abbrev pub IsKind : List ℕ → List ℕ → Kind → Type 0
IsKind market file (New unstarted) = IsUnstartedAs market file unstarted
IsKind market file Own = IsOwn market file
IsKind market file (Alien at) = IsForeign market file at

-- the bytes at the front of a file are as many as its kind says, beside a body of this size
abbrev pub IsLong : Kind → ℕ → ℕ → Type 0
IsLong (New unstarted) size len = HasRoom unstarted size len
IsLong Own size len = size < len
IsLong (Alien at) size len = Unit {0}

-- records that stand at the front of the bytes from a place on, up to a closed gate or to a malformed record
abbrev pub EndsAt : ℕ → List ℕ → List (List ℕ) → End → Type 0
EndsAt place bytes records (Gate at) = Holds records bytes × (at ≡ place + length (opened records))
EndsAt place bytes records Malformed = Breaks records bytes

-- the records at the front of the bytes from a place on
abbrev pub IsRead : ℕ → List ℕ → Found → Type 0
IsRead place bytes found = EndsAt place bytes (contents found.records.items) found.end
