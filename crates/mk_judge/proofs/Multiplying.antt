-- Products of mantissas, with their powers of two.
use Rattle.std.proofs.Common.{◌≡◌, ℕ, ◌+◌, ◌*◌, ◌^◌, ◌<◌, ◌≤◌, arith, le_refl}
use Rattle.std.proofs.lemmas.Nat.{pow-add}
use Rattle.std.proofs.Math.Nat.{mul-le-mul, mul-le-mul_right, one-le-mul}
use Rattle.mk_scaled.specs.Near.{IsNear}
use Rattle.mk_scaled.specs.Form.{IsStored, mantissa_of, exponent_of}
use Rattle.mk_scaled.specs.Range.{IsInRange, product_in_range, whole_below}
use Rattle.mk_scaled.specs.Rounding.{IsGreatestBelow, IsLeastAbove}
use Rattle.mk_scaled.specs.inner.Closeness.{near_below, near_above, least_below_power}
use Rattle.mk_judge.proofs.Nearness.{times_near}

-- a number in its one form
pub record IsWritten (number mantissa exponent : ℕ) : Type 0 where
  pub positive : 1 ≤ mantissa
  pub below : mantissa < 2 ^ 64
  pub small : exponent < 2 ^ 50
  pub written : number ≡ mantissa * 2 ^ exponent

pub stored_written : (number mantissa exponent : ℕ) → IsStored number
    → mantissa ≡ mantissa_of number → exponent ≡ exponent_of number
    → IsWritten number mantissa exponent
stored_written number mantissa exponent stored mantissa_is exponent_is = rw (
  mantissa_is,
  exponent_is,
) (record {
  positive = stored.form.positive;
  below = stored.form.below;
  small = stored.form.small;
  written = stored.written;
})

module _ (a m e b n f : ℕ) (left : IsWritten a m e) (right : IsWritten b n f) where
  pub product_fits : IsInRange (m * n)
  product_fits = product_in_range m n 64 (omega arith) (whole_below m 64 64 left.below (le_refl 64))
      (whole_below n 64 64 right.below (le_refl 64))

  some : 1 ≤ m * n
  some = one-le-mul left.positive right.positive

  whole : m * n * 2 ^ (e + f) ≡ a * b
  whole = let s : 2 ^ (e + f) ≡ 2 ^ e * 2 ^ f = pow-add 2 e f in rw (s, left.written, right.written)
      (omega arith)

  pub down_below : (x : ℕ) → IsGreatestBelow x (m * n) → x * 2 ^ (e + f) ≤ a * b
  down_below x is = rw (← whole) (mul-le-mul_right (2 ^ (e + f)) is.below)

  pub down_near : (x : ℕ) → IsGreatestBelow x (m * n) → IsNear (x * 2 ^ (e + f)) (a * b) 1
  down_near x is = rw (← whole) (times_near (2 ^ (e + f)) x (m * n) 1
      (near_below x (m * n) some is))

  pub up_above : (x : ℕ) → IsLeastAbove x (m * n) → a * b ≤ x * 2 ^ (e + f)
  up_above x is = rw (← whole) (mul-le-mul_right (2 ^ (e + f)) is.above)

  pub up_near : (x : ℕ) → IsLeastAbove x (m * n) → IsNear (a * b) (x * 2 ^ (e + f)) 1
  up_near x is = rw (← whole) (times_near (2 ^ (e + f)) (m * n) x 1 (near_above x (m * n) some is))

  pub up_few : (x : ℕ) → IsLeastAbove x (m * n) → x ≤ 2 ^ 128
  up_few x is =
      let h = left.below in
      let k = right.below in
      let first : m ≤ 2 ^ 64 = omega (arith, h) in
      let second : n ≤ 2 ^ 64 = omega (arith, k) in
      let l : m * n ≤ 2 ^ 64 * 2 ^ 64 = mul-le-mul first second in
      least_below_power x (m * n) 128 is (omega (arith, l))
