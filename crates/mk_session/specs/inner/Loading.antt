-- What was read so far of a market file.
use Rattle.std.specs.Prelude.{◌≡◌, ◌++◌, List, ℕ, Option, Some}

-- some bytes were taken from a source
pub record IsTaken (all bytes : List ℕ) (source : Option (List ℕ)) : Type 0 where
  pub rest : List ℕ
  pub told : source ≡ Some rest
  pub parts : all ≡ bytes ++ rest
