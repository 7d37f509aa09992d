-- The range of exact results: numbers below 2 ^ (2 ^ 50), a bound that is never computed.
use Rattle.std.specs.Prelude.{◌≡◌, ℕ, zero, suc, ◌+◌, ◌*◌, ◌^◌, ◌<◌, ◌≤◌}
use Rattle.std.proofs.Common.{⊎_elim, arith, lt_of_lt_of_le, lt_of_le_of_lt}
use Rattle.std.proofs.lemmas.Nat.{pow-add, pow_pos, mul-lt, shl_below}
use Rattle.std.proofs.lemmas.Bool.{cases_lt}
use Rattle.std.proofs.Math.Nat.{pow-suc, pow-zero, pow-le-pow_right, mul-le-mul}
use Rattle.mk_scaled.specs.Rounding.{IsRepresentable, IsLeastAbove}

-- 2 ^ e, which no proof of another file computes
pub two_to : ℕ → ℕ
two_to e = 2 ^ e

abbrev pub IsInRange : ℕ → Type 0
IsInRange n = n < two_to (2 ^ 50)

pub two_to-mono : (i j : ℕ) → i ≤ j → two_to i ≤ two_to j
unfolding two_to
two_to-mono i j h = pow-le-pow_right (omega arith) h

pub two_to_pos : (e : ℕ) → 0 < two_to e
unfolding two_to
two_to_pos e = pow_pos e

pub two_to-add : (i j : ℕ) → two_to (i + j) ≡ two_to i * two_to j
unfolding two_to
two_to-add i j = pow-add 2 i j

pub two_to-suc : (i : ℕ) → two_to (suc i) ≡ two_to i + two_to i
unfolding two_to
two_to-suc i = let e : 2 ^ suc i ≡ 2 ^ i * 2 = pow-suc 2 i in omega arith

-- a power of two that can be written out
pub two_to-small : (i j : ℕ) → j ≤ i → 2 ^ j ≤ two_to i
unfolding two_to
two_to-small i j h = pow-le-pow_right (omega arith) h

pub pow-lt_reflects : (i j : ℕ) → 2 ^ i < 2 ^ j → i < j
pow-lt_reflects i j h =
    ⊎_elim (λ l. l) (λ l. absurd (let p : 2 ^ j ≤ 2 ^ i = pow-le-pow_right (omega arith) l in omega arith)) (cases_lt i j)

-- a number below the bound has a small exponent
pub exponent_below : (a e j k : ℕ) → 2 ^ j ≤ a → a * 2 ^ e < two_to k → j + e < k
unfolding two_to
exponent_below a e j k h l =
    let m : 2 ^ j * 2 ^ e ≤ a * 2 ^ e = mul-le-mul h (omega arith) in
    pow-lt_reflects (j + e) k (rw (pow-add 2 j e) (lt_of_le_of_lt m l))

-- and a number with a small exponent is below the bound
pub below_two_to : (a e j k : ℕ) → a < 2 ^ j → j + e ≤ k → a * 2 ^ e < two_to k
unfolding two_to
below_two_to a e j k h l =
    lt_of_lt_of_le (shl_below a j e h) (pow-le-pow_right (omega arith) l)

pub whole_below : (a j k : ℕ) → a < 2 ^ j → j ≤ k → a < two_to k
whole_below a j k h l = lt_of_lt_of_le h (two_to-small k j l)

pub mul_below : (a b i j : ℕ) → a < two_to i → b < two_to j → a * b < two_to (i + j)
mul_below a b i j h l = rw (two_to-add i j) (mul-lt a b (two_to i) (two_to j) h l)

pub pow_le : (i j : ℕ) → i ≤ j → 2 ^ i ≤ 2 ^ j
pow_le i j h = pow-le-pow_right (omega arith) h

pub two_to-lt : (i j : ℕ) → i < j → two_to i < two_to j
two_to-lt i j h =
    let s = two_to-suc i in
    let p = two_to_pos i in
    let m = two_to-mono (suc i) j (omega arith) in
    omega arith

pub mul_at_most : (a b i j : ℕ) → a ≤ two_to i → b ≤ two_to j → a * b ≤ two_to (i + j)
mul_at_most a b i j h l = rw (two_to-add i j) (mul-le-mul h l)

pub pow_at_most : (a i n : ℕ) → a ≤ two_to i → a ^ n ≤ two_to (i * n)
pow_at_most a i zero h = rw (pow-zero a) (two_to_pos (i * 0))
pow_at_most a i (suc n) h =
    let s : i * suc n ≡ i * n + i = omega arith in
    rw (pow-suc a n, s) (mul_at_most (a ^ n) a (i * n) i (pow_at_most a i n h) h)

-- sums, products and powers of small numbers are in range
pub sum_in_range : (a b k : ℕ) → k < 2 ^ 50 → a < two_to k → b < two_to k → IsInRange (a + b)
sum_in_range a b k l h g =
    let s = two_to-suc k in
    let m = two_to-mono (suc k) (2 ^ 50) (omega arith) in
    omega arith

pub product_in_range : (a b k : ℕ) → k < 2 ^ 49 → a < two_to k → b < two_to k → IsInRange (a * b)
product_in_range a b k l h g =
    lt_of_lt_of_le (mul_below a b k k h g) (two_to-mono (k + k) (2 ^ 50) (omega arith))

pub power_in_range : (a i n : ℕ) → a ≤ two_to i → i * n < 2 ^ 50 → IsInRange (a ^ n)
power_in_range a i n h l = lt_of_le_of_lt (pow_at_most a i n h) (two_to-lt (i * n) (2 ^ 50) l)

-- a power of two bounds what is rounded to it
pub representable_two_to : (k : ℕ) → IsRepresentable (two_to k)
unfolding two_to
representable_two_to k = record { mantissa = 1; exponent = k; positive = omega arith; below = omega arith; written = omega arith }

pub least_at_most : (n x k : ℕ) → IsLeastAbove n x → x ≤ two_to k → n ≤ two_to k
least_at_most n x k h l = h.least (two_to k) (representable_two_to k) l
