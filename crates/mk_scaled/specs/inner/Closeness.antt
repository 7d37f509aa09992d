-- What directed rounding tells a caller: a representable result is exact, and any result is near.
use Rattle.std.proofs.Common.{◌≡◌, ℕ, suc, ◌+◌, ◌-◌, ◌*◌, ◌/◌, ◌^◌, ◌<◌, ◌≤◌, inl, inr, ◌⊎◌}
use Rattle.std.proofs.Common.{refl, sym, ap, ◌∙◌, ⊎_elim, arith, le_refl, lt_of_le_of_lt}
use Rattle.std.proofs.lemmas.Bool.{cases_lt}
use Rattle.std.proofs.lemmas.Nat.{pow-add, pow_pos, shr_below, le-div}
use Rattle.std.proofs.Math.Nat.{mul-le-mul, mul-one, div-mul-le_self, lt-div-mul-add, one-le-mul}
use Rattle.mk_scaled.specs.Form.{bit_length, IsForm}
use Rattle.mk_scaled.specs.inner.UniqueForm.{bit_length_bounds, two_pow-suc}
use Rattle.mk_scaled.specs.Range.{pow-lt_reflects}
use Rattle.mk_scaled.specs.Rounding.{IsRepresentable, IsGreatestBelow, IsLeastAbove}
use Rattle.mk_scaled.specs.Near.{IsNear, near_step}

pub representable_form : (m e : ℕ) → IsForm m e → IsRepresentable (m * 2 ^ e)
representable_form m e f = record { mantissa = m; exponent = e; positive = f.positive; below = f.below; written = refl }

-- the whole numbers below 2 ^ 64, and the powers of two
pub representable_whole : (n : ℕ) → 1 ≤ n → n < 2 ^ 64 → IsRepresentable n
representable_whole n p h = record { mantissa = n; exponent = 0; positive = p; below = h; written = sym (mul-one n) }

pub representable_power : (k : ℕ) → IsRepresentable (2 ^ k)
representable_power k = record { mantissa = 1; exponent = k; positive = omega arith; below = omega arith; written = omega arith }

pub greatest_exact : (n x : ℕ) → IsGreatestBelow n x → IsRepresentable x → n ≡ x
greatest_exact n x h r = let l = h.greatest x r (le_refl x) in let k = h.below in omega arith

pub least_exact : (n x : ℕ) → IsLeastAbove n x → IsRepresentable x → n ≡ x
least_exact n x h r = let l = h.least x r (le_refl x) in let k = h.above in omega arith

pub greatest_positive : (n x : ℕ) → IsGreatestBelow n x → 1 ≤ n
greatest_positive n x h =
    let r = h.representable in rw r.written (one-le-mul r.positive (pow_pos r.exponent))

pub least_positive : (n x : ℕ) → IsLeastAbove n x → 1 ≤ n
least_positive n x h =
    let r = h.representable in rw r.written (one-le-mul r.positive (pow_pos r.exponent))

-- Each number lies between two neighbours: at most 2 ^ 63 mantissas apart from 0.
record IsBetween (x m e : ℕ) : Type 0 where
  low : IsRepresentable (m * 2 ^ e)
  high : IsRepresentable ((m + 1) * 2 ^ e)
  above : m * 2 ^ e ≤ x
  below : x < (m + 1) * 2 ^ e
  full : 2 ^ 63 ≤ m

next_representable : (m e : ℕ) → 2 ^ 63 ≤ m → m < 2 ^ 64 → IsRepresentable ((m + 1) * 2 ^ e)
next_representable m e f h =
    ⊎_elim
    (λ l. record { mantissa = m + 1; exponent = e; positive = omega arith; below = l; written = refl })
    (λ l.
    let s : 2 ^ suc e ≡ 2 * 2 ^ e = two_pow-suc e in
    let i : m + 1 ≡ 2 ^ 64 = omega arith in
    record { mantissa = 2 ^ 63; exponent = suc e; positive = omega arith; below = omega arith; written = rw (s, i) (omega arith) })
    (cases_lt (m + 1) (2 ^ 64))

between_at : (x e : ℕ) → 2 ^ (63 + e) ≤ x → x < 2 ^ (64 + e) → IsBetween x (x / 2 ^ e) e
between_at x e h l =
    let f : 2 ^ 63 ≤ x / 2 ^ e = le-div (2 ^ 63) x (2 ^ e) (pow_pos e) (rw (← pow-add 2 63 e) h) in
    let b : x / 2 ^ e < 2 ^ 64 = shr_below x 64 e l in
    let u : x < x / 2 ^ e * 2 ^ e + 2 ^ e = lt-div-mul-add (pow_pos e) in
    record {
      low = record { mantissa = x / 2 ^ e; exponent = e; positive = omega arith; below = b; written = refl };
      high = next_representable (x / 2 ^ e) e f b;
      above = div-mul-le_self x (2 ^ e);
      below = omega arith;
      full = f;
    }

between : (x : ℕ) → 2 ^ 64 ≤ x → (e : ℕ) × IsBetween x (x / 2 ^ e) e
between x h =
    let b = bit_length_bounds x (omega arith) in
    let l : 64 < bit_length x = pow-lt_reflects 64 (bit_length x) (lt_of_le_of_lt h b.0) in
    let i : bit_length x ≡ 64 + (bit_length x - 64) = omega arith in
    let s : bit_length x ≡ suc (63 + (bit_length x - 64)) = omega arith in
    let t : 2 ^ bit_length x ≡ 2 * 2 ^ (63 + (bit_length x - 64)) = ap (λ k. 2 ^ k) s ∙ two_pow-suc (63 + (bit_length x - 64)) in
    let q : 2 ^ bit_length x ≡ 2 ^ (64 + (bit_length x - 64)) = ap (λ k. 2 ^ k) i in
    let c = b.0 in
    let d = b.1 in
    (bit_length x - 64, between_at x (bit_length x - 64) (omega arith) (omega arith))

-- a number is either written as it is, or lies between two that are
whole_or_between : (x : ℕ) → (x < 2 ^ 64) ⊎ ((e : ℕ) × IsBetween x (x / 2 ^ e) e)
whole_or_between x = ⊎_elim (λ l. inl l) (λ l. inr (between x l)) (cases_lt x (2 ^ 64))

-- A result that is rounded down lacks less than one part in 2 ^ 62, and likewise up.
short_of : (n x m p : ℕ) → m * p ≤ n → x ≤ (m + 1) * p → 2 ^ 63 ≤ m → x * 2 ^ 62 ≤ n * (2 ^ 62 + 1)
short_of n x m p h l f =
    let a : p * 2 ^ 62 ≤ p * m = let g : 2 ^ 62 ≤ m = omega arith in mul-le-mul (le_refl p) g in
    omega arith

pub close_below : (n x : ℕ) → 1 ≤ x → IsGreatestBelow n x → x * 2 ^ 62 ≤ n * (2 ^ 62 + 1)
close_below n x p h =
    ⊎_elim
    (λ l. let e = greatest_exact n x h (representable_whole x p l) in omega arith)
    (λ b. short_of n x (x / 2 ^ b.0) (2 ^ b.0) (h.greatest _ b.1.low b.1.above)
    (let u = b.1.below in omega arith) b.1.full)
    (whole_or_between x)

pub close_above : (n x : ℕ) → 1 ≤ x → IsLeastAbove n x → n * 2 ^ 62 ≤ x * (2 ^ 62 + 1)
close_above n x p h =
    ⊎_elim
    (λ l. let e = least_exact n x h (representable_whole x p l) in omega arith)
    (λ b. short_of x n (x / 2 ^ b.0) (2 ^ b.0) b.1.above
    (h.least _ b.1.high (let u = b.1.below in omega arith)) b.1.full)
    (whole_or_between x)

-- one step of the grade
pub near_below : (n x : ℕ) → 1 ≤ x → IsGreatestBelow n x → IsNear n x 1
near_below n x p h = let c = close_below n x p h in near_step n x (omega arith)

pub near_above : (n x : ℕ) → 1 ≤ x → IsLeastAbove n x → IsNear x n 1
near_above n x p h = let c = close_above n x p h in near_step x n (omega arith)

-- a power of two bounds what is rounded to it
pub least_below_power : (n x k : ℕ) → IsLeastAbove n x → x ≤ 2 ^ k → n ≤ 2 ^ k
least_below_power n x k h l = h.least (2 ^ k) (representable_power k) l
