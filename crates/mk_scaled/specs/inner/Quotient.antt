-- The whole part of a quotient, and whether something is left over.
use Rattle.std.specs.Prelude.{◌≡◌, ℕ, ◌+◌, ◌*◌, ◌<◌, Bool, true, false}

pub record IsQuotient (whole : ℕ) (rest : Bool) (number by : ℕ) : Type 0 where
  pub even : rest ≡ false → number ≡ whole * by
  pub above : rest ≡ true → whole * by < number
  pub below : number < (whole + 1) * by
