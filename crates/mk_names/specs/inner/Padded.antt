-- How a name is kept: its bytes, and zeros up to 32.
use Rattle.std.specs.Prelude.{◌≡◌, ℕ, ◌-◌, ◌≤◌, List, ◌++◌, length, take, replicate}
use Rattle.mk_names.specs.Name.{IsName, max_name_bytes}

abbrev pub padded : List ℕ → List ℕ
padded name = name ++ replicate (max_name_bytes - length name) 0

pub record IsPadded (bytes : List ℕ) (n : ℕ) : Type 0 where
  pub whole : length bytes ≡ max_name_bytes
  pub fits : n ≤ max_name_bytes
  pub name : IsName (take n bytes)
  pub zeros : padded (take n bytes) ≡ bytes
