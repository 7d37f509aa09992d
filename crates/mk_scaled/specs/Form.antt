-- How a whole number is written as a mantissa and an exponent.
use Rattle.std.specs.Prelude.{◌≡◌, ℕ, zero, suc, ◌-◌, ◌*◌, ◌/◌, ◌^◌, ◌<◌, ◌≤◌}

-- how many binary digits n has, where f are enough
unfoldable pub digits : ℕ → ℕ → ℕ
digits zero n = 0
digits (suc f) zero = 0
digits (suc f) (suc n) = suc (digits f (suc n / 2))

-- how many binary digits n has
unfoldable pub bit_length : ℕ → ℕ
bit_length n = digits n n

-- the exponent and the mantissa that n is written with, where it has a form
unfoldable pub exponent_of : ℕ → ℕ
exponent_of n = bit_length n - 64

unfoldable pub mantissa_of : ℕ → ℕ
mantissa_of n = n / 2 ^ exponent_of n

-- The one way to write a number: the exponent is 0, or the mantissa fills its 64 bits.
pub record IsForm (mantissa exponent : ℕ) : Type 0 where
  pub positive : 1 ≤ mantissa
  pub below : mantissa < 2 ^ 64
  pub small : exponent < 2 ^ 50
  pub full : 0 < exponent → 2 ^ 63 ≤ mantissa

-- What each stored number keeps: its mantissa and its exponent are a form, and give it back.
pub record IsStored (n : ℕ) : Type 0 where
  pub form : IsForm (mantissa_of n) (exponent_of n)
  pub written : n ≡ mantissa_of n * 2 ^ exponent_of n
