-- Rounding and powers as a rule gives them, step by step: whoever follows it gets the same number.
use Rattle.std.specs.Prelude.{ℕ, zero, suc, ◌+◌, ◌-◌, ◌*◌, ◌/◌, ◌%◌, ◌^◌, ◌==◌, if◌then◌else◌, nat_le}
use Rattle.mk_scaled.specs.Form.{bit_length, exponent_of, mantissa_of}

-- the greatest representable number that is not above a positive one
abbrev pub rounded_down : ℕ → ℕ
rounded_down x = mantissa_of x * 2 ^ exponent_of x

-- the least representable number that is not below a positive one
abbrev pub rounded_up : ℕ → ℕ
rounded_up x = (x + (2 ^ exponent_of x - 1)) / 2 ^ exponent_of x * 2 ^ exponent_of x

-- a power by squaring, where so many halvings are enough: the power of half the exponent is squared, and multiplied once
-- more where the exponent is odd; each product is rounded
unfoldable pub power_within : ℕ → (ℕ → ℕ) → ℕ → ℕ → ℕ
power_within zero round x n = x
power_within (suc f) round x n =
    if nat_le n 1 then x
    else (let half = power_within f round x (n / 2) in
    if n % 2 == 1 then round (round (half * half) * x) else round (half * half))

-- the power that a rule of rounding gives
abbrev pub power_by : (ℕ → ℕ) → ℕ → ℕ → ℕ
power_by round x n = power_within n round x n

-- the greatest whole number whose power of two is not above a positive number
abbrev pub whole_log : ℕ → ℕ
whole_log x = bit_length x - 1
