-- A number before it is rounded: digits times a power of two, and whether something is left over.
use Rattle.std.specs.Prelude.{◌≡◌, ℕ, ◌+◌, ◌*◌, ◌^◌, ◌<◌, ◌≤◌, Bool, true, false}
use Rattle.mk_scaled.specs.Range.{two_to}

-- In a range that is a little wider than that of exact results: a power that is rounded up on the way may leave that one.
abbrev pub IsNearRange : ℕ → Type 0
IsNearRange n = n < two_to (2 ^ 50 + 2)

-- digits that fill a mantissa, unless the exponent is 0
pub record IsFull (digits exponent : ℕ) : Type 0 where
  pub positive : 1 ≤ digits
  pub below : digits < 2 ^ 128
  pub full : 0 < exponent → 2 ^ 63 ≤ digits
  pub fits : IsNearRange (digits * 2 ^ exponent)

-- the number is that of the digits, or lies between it and the next
pub record StandsFor (digits exponent : ℕ) (rest : Bool) (number : ℕ) : Type 0 where
  pub whole : rest ≡ false → number ≡ digits * 2 ^ exponent
  pub above : rest ≡ true → digits * 2 ^ exponent < number
  pub below : number < (digits + 1) * 2 ^ exponent
