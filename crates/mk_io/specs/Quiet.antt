-- Inputs in memory whose calls never fail, as plain values.
use Rattle.std.specs.Prelude.{ℕ, List, []}
use Rattle.std.specs.Option.{unwrap_or}
use Rattle.mk_io.specs.Memory.{file_bytes}

pub record QuietIn : Type 0 where
  pub files : List (List ℕ × List ℕ)
  pub market : List ℕ
  pub commands : List ℕ
  pub piece : ℕ

-- the bytes of the first file of a name; a name that no file has is that of an empty one
abbrev pub file_or_empty : List (List ℕ × List ℕ) → List ℕ → List ℕ
file_or_empty files name = unwrap_or (file_bytes files name) []
