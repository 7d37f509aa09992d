-- What is read of a file.
use Rattle.std.specs.Prelude.{◌≡◌, ℕ, ◌+◌, ◌≤◌, List, ◌++◌, length, take, Option, Some, ◌⊎◌}
use Rattle.std.specs.Prelude.{Result, Ok, Err}
use Rattle.mk_io.specs.Outside.{CountsFault}
use Rattle.mk_file.specs.File.{max_file_bytes}
use Rattle.mk_session.specs.declared.run.LoadFault.{LoadFault}
use Rattle.mk_session.specs.declared.run.LoadFault.TheVariants.{Input, Memory}

-- the part of a file that is read: one byte more than a market file may have
unfoldable pub opened_part : List ℕ → List ℕ
opened_part file = take 1048577 file

-- at most so many bytes were taken from the front of a file, and the others are left
pub record IsTakenWithin (most : ℕ) (file : List ℕ) (left : Option (List ℕ)) : Type 0 where
  pub taken : List ℕ
  pub rest : List ℕ
  pub told : left ≡ Some rest
  pub parts : file ≡ taken ++ rest
  pub few : length taken ≤ most

-- a file was not opened, or it was and at most so many bytes of it were read
abbrev pub IsPartRead : ℕ → List ℕ → Option (List ℕ) → Option (List ℕ) → Type 0
IsPartRead most file before left = (left ≡ before) ⊎ IsTakenWithin most file left

-- the same of a market file: at most one byte more than it may have
abbrev pub IsReadWithin : List ℕ → Option (List ℕ) → Option (List ℕ) → Type 0
IsReadWithin file before left = IsPartRead (max_file_bytes + 1) file before left

-- the inputs failed where a fault was counted, and nowhere else
abbrev pub HasLoadCause : {T : Type 0} → Result T LoadFault → ℕ → ℕ → Type 0
HasLoadCause (Err Input) before now = CountsFault before now
HasLoadCause (Err Memory) before now = now ≡ before
HasLoadCause (Ok value) before now = now ≡ before
