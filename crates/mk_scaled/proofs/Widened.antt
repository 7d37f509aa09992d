-- The digits of a product, a sum and a shift.
use Rattle.std.proofs.Common.{◌≡◌, ℕ, ◌+◌, ◌-◌, ◌*◌, ◌%◌, ◌^◌, ◌<◌, ◌≤◌, true, false, sym, ap, ◌∙◌, ⊎_elim, arith, lt_of_lt_of_le, le_refl, true≢false, min}
use Rattle.std.proofs.lemmas.Nat.{pow-add, pow_pos, shl_below, shl_whole, mul-lt}
use Rattle.std.proofs.lemmas.Bool.{cases_lt, false≢true}
use Rattle.std.proofs.Math.Nat.{mul-le-mul, mul_assoc, mul-mul-mul_comm, one-le-mul}
use Rattle.mk_scaled.specs.Form.{IsForm}
use Rattle.mk_scaled.specs.Range.{two_to, exponent_below, pow_le}
use Rattle.mk_scaled.specs.inner.Wide.{IsFull, IsNearRange, StandsFor}

-- digits that say the number exactly
pub exactly : (d e x : ℕ) → x ≡ d * 2 ^ e → StandsFor d e false x
exactly d e x h =
    let p = pow_pos e in
    record { whole = λ q. h; above = λ q. absurd (false≢true q); below = omega arith }

-- ---- products

product_is : (m e n d : ℕ) → (m * 2 ^ e) * (n * 2 ^ d) ≡ (m * n) * 2 ^ (e + d)
product_is m e n d = mul-mul-mul_comm m (2 ^ e) n (2 ^ d) ∙ ap (λ y. (m * n) * y) (sym (pow-add 2 e d))

full_product : (m e n d : ℕ) → IsForm m e → IsForm n d → 0 < e + d → 2 ^ 63 ≤ m * n
full_product m e n d f g h =
    ⊎_elim
    (λ p. let t : 2 ^ 63 * 1 ≤ m * n = mul-le-mul (f.full p) g.positive in omega arith)
    (λ z. let t : 1 * 2 ^ 63 ≤ m * n = mul-le-mul f.positive (g.full (omega arith)) in omega arith)
    (cases_lt 0 e)

pub IsFull-product : (m e n d : ℕ) → IsForm m e → IsForm n d → IsNearRange ((m * 2 ^ e) * (n * 2 ^ d)) → IsFull (m * n) (e + d)
IsFull-product m e n d f g h = record {
  positive = one-le-mul f.positive g.positive;
  below = mul-lt m n (2 ^ 64) (2 ^ 64) f.below g.below;
  full = full_product m e n d f g;
  fits = rw (← product_is m e n d) h;
}

pub StandsFor-product : (m e n d : ℕ) → StandsFor (m * n) (e + d) false ((m * 2 ^ e) * (n * 2 ^ d))
StandsFor-product m e n d = exactly (m * n) (e + d) _ (product_is m e n d)

-- ---- sums

gap_is : (m e d : ℕ) → d ≤ e → m * 2 ^ e ≡ (m * 2 ^ (e - d)) * 2 ^ d
gap_is m e d h =
    let s : e ≡ (e - d) + d = omega arith in
    ap (λ k. m * 2 ^ k) s ∙ ap (λ y. m * y) (pow-add 2 (e - d) d) ∙ sym (mul_assoc m (2 ^ (e - d)) (2 ^ d))

near_sum : (m e n d : ℕ) → d ≤ e → m * 2 ^ e + n * 2 ^ d ≡ (m * 2 ^ (e - d) + n) * 2 ^ d
near_sum m e n d h = let g = gap_is m e d h in rw g (omega arith)

near_below : (m n k : ℕ) → m < 2 ^ 64 → n < 2 ^ 64 → k < 64 → m * 2 ^ k < 2 ^ 127
near_below m n k f g h =
    lt_of_lt_of_le (shl_below m 64 k f) (pow_le (64 + k) 127 (omega arith))

-- what the code computes, which does not wrap
pub near_digits : (m k : ℕ) → m < 2 ^ 64 → k < 64 → m * 2 ^ k % 2 ^ 128 ≡ m * 2 ^ k
near_digits m k f h = shl_whole m 64 k 128 f (omega arith)

pub IsFull-near : (m e n d : ℕ) → IsForm m e → IsForm n d → d ≤ e → e - d < 64 → IsNearRange (m * 2 ^ e + n * 2 ^ d) → IsFull (m * 2 ^ (e - d) + n) d
IsFull-near m e n d f g l k h =
    let b = near_below m n (e - d) f.below g.below k in
    let p = f.positive in
    let q = g.positive in
    let r = g.below in
    record {
      positive = omega arith;
      below = omega arith;
      full = λ z. let t = g.full z in omega arith;
      fits = rw (← near_sum m e n d l) h;
    }

pub StandsFor-near : (m e n d : ℕ) → d ≤ e → StandsFor (m * 2 ^ (e - d) + n) d false (m * 2 ^ e + n * 2 ^ d)
StandsFor-near m e n d l = exactly _ d _ (near_sum m e n d l)

far_below : (n d e : ℕ) → n < 2 ^ 64 → 64 ≤ e - d → n * 2 ^ d < 2 ^ e
far_below n d e h l =
    lt_of_lt_of_le (shl_below n 64 d h) (pow_le (64 + d) e (omega arith))

pub IsFull-far : (m e n d : ℕ) → IsForm m e → IsNearRange (m * 2 ^ e + n * 2 ^ d) → IsFull m e
IsFull-far m e n d f h =
    let b = f.below in
    record { positive = f.positive; below = omega arith; full = f.full; fits = omega arith }

pub StandsFor-far : (m e n d : ℕ) → IsForm n d → 64 ≤ e - d → StandsFor m e true (m * 2 ^ e + n * 2 ^ d)
StandsFor-far m e n d g l =
    let b = far_below n d e g.below l in
    let p : 1 * 1 ≤ n * 2 ^ d = mul-le-mul g.positive (pow_pos d) in
    record { whole = λ q. absurd (true≢false q); above = λ q. omega arith; below = omega arith }

-- ---- shifts

shift_is : (m e i k : ℕ) → i ≤ k → (m * 2 ^ e) * 2 ^ k ≡ (m * 2 ^ i) * 2 ^ (e + (k - i))
shift_is m e i k h =
    let s : e + k ≡ i + (e + (k - i)) = omega arith in
    mul_assoc m (2 ^ e) (2 ^ k) ∙ ap (λ y. m * y) (sym (pow-add 2 e k) ∙ ap (λ y. 2 ^ y) s ∙ pow-add 2 i (e + (k - i))) ∙ sym (mul_assoc m (2 ^ i) (2 ^ (e + (k - i))))

full_shift : (m e i k : ℕ) → IsForm m e → i ≡ min k 63 → 0 < e + (k - i) → 2 ^ 63 ≤ m * 2 ^ i
full_shift m e i k f h l =
    ⊎_elim
    (λ p. let t : 2 ^ 63 * 1 ≤ m * 2 ^ i = mul-le-mul (f.full p) (pow_pos i) in omega arith)
    (λ z.
    let s : i ≡ 63 = omega arith in
    let t : 1 * 2 ^ 63 ≤ m * 2 ^ 63 = mul-le-mul f.positive (le_refl (2 ^ 63)) in
    rw s (omega arith))
    (cases_lt 0 e)

shift_exponent : (m e k : ℕ) → 1 ≤ m → IsNearRange ((m * 2 ^ e) * 2 ^ k) → e + k < 2 ^ 50 + 2
shift_exponent m e k p h =
    let s : (m * 2 ^ e) * 2 ^ k ≡ m * 2 ^ (e + k) = mul_assoc m (2 ^ e) (2 ^ k) ∙ ap (λ y. m * y) (sym (pow-add 2 e k)) in
    let l : m * 2 ^ (e + k) < two_to (2 ^ 50 + 2) = rw s at h in
    let x = exponent_below m (e + k) 0 (2 ^ 50 + 2) p l in
    omega arith

pub shift_room : (m e i k : ℕ) → IsForm m e → i ≡ min k 63 → IsNearRange ((m * 2 ^ e) * 2 ^ k) → e + (k - i) < 2 ^ 64
shift_room m e i k f j h = let x = shift_exponent m e k f.positive h in omega arith

pub shift_digits : (m i k : ℕ) → m < 2 ^ 64 → i ≡ min k 63 → m * 2 ^ i % 2 ^ 128 ≡ m * 2 ^ i
shift_digits m i k f h = shl_whole m 64 i 128 f (omega arith)

pub IsFull-shift : (m e i k : ℕ) → IsForm m e → i ≡ min k 63 → IsNearRange ((m * 2 ^ e) * 2 ^ k) → IsFull (m * 2 ^ i) (e + (k - i))
IsFull-shift m e i k f j h =
    let p : 1 * 1 ≤ m * 2 ^ i = mul-le-mul f.positive (pow_pos i) in
    let u : m * 2 ^ i < 2 ^ (64 + i) = shl_below m 64 i f.below in
    let v = pow_le (64 + i) 127 (omega arith) in
    let l : i ≤ k = omega arith in
    record { positive = omega arith; below = omega arith; full = full_shift m e i k f j; fits = rw (← shift_is m e i k l) h }

pub StandsFor-shift : (m e i k : ℕ) → i ≡ min k 63 → StandsFor (m * 2 ^ i) (e + (k - i)) false ((m * 2 ^ e) * 2 ^ k)
StandsFor-shift m e i k j = exactly _ _ _ (shift_is m e i k (omega arith))
