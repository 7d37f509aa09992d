-- A power of a quotient that is rounded, beside the exact one.
use Rattle.std.specs.Prelude.{ℕ, ◌+◌, ◌*◌, ◌^◌, ◌<◌}

-- high is less than low times (1 + 2 ^ -60) ^ steps
pub record IsLessNear (low high steps : ℕ) : Type 0 where
  pub near : high * (2 ^ 60) ^ steps < low * (2 ^ 60 + 1) ^ steps
