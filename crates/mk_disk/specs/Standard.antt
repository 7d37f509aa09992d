-- The files of the operating system.
use Rattle.std.specs.Prelude.{ℕ, List, Option}

-- the name of the open file, and how many calls have failed
pub record StandardState : Type 0 where
  pub opened : Option (List ℕ)
  pub faults : ℕ
