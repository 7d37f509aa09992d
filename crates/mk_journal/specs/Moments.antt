-- What a crash at any moment of a call may leave.
use Rattle.std.specs.Prelude.{◌⊎◌, ℕ, ◌≤◌, List}

-- a crash at some moment of a call, from its beginning to its end, leaves only a file with P
pub record LeavesOnly (before now : ℕ) (past since : ℕ → List ℕ → Type 0) (P : List ℕ → Type 0) : Type 0 where
  pub later : before ≤ now
  pub each : (c : List ℕ) → since before c → P c
  -- for a run that began earlier
  pub earlier : (t : ℕ) (c : List ℕ) → t ≤ before → since t c → past t c ⊎ P c
