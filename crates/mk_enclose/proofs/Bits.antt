-- The greatest power of two within a factor.
use Rattle.std.proofs.Common.{◌≡◌, ℕ, ◌+◌, ◌-◌, ◌*◌, ◌^◌, ◌<◌, ◌≤◌, arith, le_trans, le_refl, lt_of_le_of_lt}
use Rattle.std.proofs.lemmas.Nat.{pow-add, pow_pos}
use Rattle.std.proofs.Math.Nat.{mul-le-mul, mul-lt-mul_of_pos_right}
use Rattle.mk_scaled.specs.Range.{pow_le, pow-lt_reflects}

pub bits_within : (g l i k s : ℕ) → 2 ^ l ≤ g → k + s ≤ l + i → 2 ^ (k + s) ≤ g * 2 ^ i
bits_within g l i k s h n =
    le_trans (pow_le (k + s) (l + i) n) (rw (pow-add 2 l i) (mul-le-mul h (le_refl (2 ^ i))))

pub bits_at_most : (g l i k s : ℕ) → g < 2 ^ (l + 1) → 2 ^ (k + s) ≤ g * 2 ^ i → k + s ≤ l + i
bits_at_most g l i k s h n =
    let u : g * 2 ^ i < 2 ^ (l + 1 + i) = rw (pow-add 2 (l + 1) i) (mul-lt-mul_of_pos_right h (pow_pos i)) in
    let r = pow-lt_reflects (k + s) (l + 1 + i) (lt_of_le_of_lt n u) in
    omega arith

pub whole_fits : (g l i o t r : ℕ) → 2 ^ l ≤ g → r ≡ l + i - (t + o) → 0 < r → 2 ^ (r + t + o) ≤ g * 2 ^ i
whole_fits g l i o t r h e p =
    let s : r + t + o ≡ r + (t + o) = omega arith in rw s (bits_within g l i r (t + o) h (omega arith))

pub whole_greatest : (g l i o t r k : ℕ) → g < 2 ^ (l + 1) → r ≡ l + i - (t + o) → 2 ^ (k + t + o) ≤ g * 2 ^ i → k ≤ r
whole_greatest g l i o t r k h e n =
    let s : k + t + o ≡ k + (t + o) = omega arith in
    let m = bits_at_most g l i k (t + o) h (rw s at n) in
    omega arith
