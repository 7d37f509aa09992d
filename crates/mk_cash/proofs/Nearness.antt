-- How near the ends of a power are, and what one part in so many leaves.
use Rattle.std.proofs.Common.{◌≡◌, ℕ, zero, suc, ◌+◌, ◌-◌, ◌*◌, ◌^◌, ◌<◌, ◌≤◌, refl, sym, ap, ◌∙◌}
use Rattle.std.proofs.Common.{arith, le_refl}
use Rattle.std.proofs.Math.Nat.{pow-suc, pow-zero, mul-le-mul_left, mul-le-mul_right}
use Rattle.std.proofs.Math.Nat.{mul-lt-mul_of_pos_right, one-le-mul, one-le-pow, pow-le-pow_left}
use Rattle.std.proofs.Math.Nat.{le_of_mul-le-mul_right, lt_of_mul-lt-mul_right}
use Rattle.std.proofs.lemmas.Nat.{pow-add, mul-pow}
use Rattle.mk_scaled.specs.Near.{IsNear, near-mul, near_trans, near_same, near_between, near_width}
use Rattle.mk_scaled.specs.Near.{width_law}
use Rattle.mk_net.specs.Bounds.{max_market_trades, sharpness, grade_room}
use Rattle.mk_exact.proofs.Sharp.{at_room, by_trades}
use Rattle.mk_cash.specs.inner.Quotient.{IsLessNear}

-- ---- powers of what is near

pub near_power : (low high grade n : ℕ) → IsNear low high grade
    → IsNear (low ^ n) (high ^ n) (n * grade)
near_power low high grade zero h = let e : zero * grade ≡ 0 = omega arith in rw
    (pow-zero low, pow-zero high, e) (near_same 1)
near_power low high grade (suc n) h =
    let e : suc n * grade ≡ n * grade + grade = omega arith in
    rw (pow-suc low n, pow-suc high n, e) (near-mul (low ^ n) (high ^ n) low high (n * grade) grade
    (near_power low high grade n h) h)

double_of : (low high c : ℕ) → 2 ^ 59 ≤ c → high * c ≤ low * 2 ^ 60 → high ≤ 2 * low
double_of low high c h l = let m : high * 2 ^ 59 ≤ high * c = mul-le-mul_left high h in omega arith

pub at_most_double : (low high steps : ℕ) → steps ≤ 2 ^ 59 → IsNear low high steps → high ≤ 2 * low
at_most_double low high steps h l = double_of low high (2 ^ 60 - steps) (omega arith)
    (near_width low high steps l)

-- ---- one part in near

power_times : (a e b : ℕ) → (a ^ e) ^ b ≡ a ^ (b * e)
power_times a e zero = let s : zero * e ≡ 0 = omega arith in pow-zero (a ^ e) ∙ rw s
    (sym (pow-zero a))
power_times a e (suc b) =
    let s : b * e + e ≡ suc b * e = omega arith in
    pow-suc (a ^ e) b ∙ ap (λ k. k * a ^ e) (power_times a e b) ∙ sym (pow-add a (b * e) e) ∙ ap
    (λ k. a ^ k) s

-- a factor that many steps of rounding stay within: one part in near
pub record IsWide (near steps : ℕ) : Type 0 where
  pub some : 2 ≤ near
  pub wide : (2 ^ 60 + 1) ^ steps * (near - 1) ≤ (2 ^ 60) ^ steps * near

wide_of : (near steps rest : ℕ) → 2 ≤ near → 1 ≤ rest → near * rest ≡ 2 ^ 60 → steps ≤ rest
    → IsWide near steps
wide_of near steps rest some one e few = record
    { some = some; wide = le_of_mul-le-mul_right {k = rest} scaled one }
  where
    scaled : (2 ^ 60 + 1) ^ steps * (near - 1) * rest ≤ (2 ^ 60) ^ steps * near * rest
    scaled =
        let l : (near - 1) * rest ≤ 2 ^ 60 - steps =
        (let m : (near - 1) * rest + rest ≡ near * rest = by_one near (omega arith) in omega
        arith) in
        let a : (2 ^ 60 + 1) ^ steps * ((near - 1) * rest) ≤ (2 ^ 60 + 1) ^ steps * (2 ^ 60 - steps)
        = mul-le-mul_left ((2 ^ 60 + 1) ^ steps) l in
        let b = width_law (2 ^ 60) steps in
        let c : (2 ^ 60) ^ suc steps ≡ (2 ^ 60) ^ steps * 2 ^ 60 = pow-suc (2 ^ 60) steps in
        let d : (2 ^ 60) ^ steps * (near * rest) ≡ (2 ^ 60) ^ steps * 2 ^ 60 = ap
        (λ k. (2 ^ 60) ^ steps * k) e in
        omega arith
      where
        by_one : (n : ℕ) → 1 ≤ n → (n - 1) * rest + rest ≡ n * rest
        by_one zero some = absurd (omega arith)
        by_one (suc n) some = let e : suc n - 1 ≡ n = omega arith in rw e (omega arith)

-- raised to a power
raised_wide : (near steps b : ℕ) → IsWide near steps
    → (2 ^ 60 + 1) ^ (b * steps) * (near - 1) ^ b ≤ (2 ^ 60) ^ (b * steps) * near ^ b
raised_wide near steps b h =
    rw (
      ← power_times (2 ^ 60 + 1) steps b,
      ← power_times (2 ^ 60) steps b,
      ← mul-pow
          ((2 ^ 60 + 1) ^ steps) (near - 1) b,
      ← mul-pow ((2 ^ 60) ^ steps) near b,
    )
    (pow-le-pow_left h.wide b)

-- x * q is less than y * p, and p * m at most q * n: so x * m is less than y * n
across : (x y p q m n : ℕ) → x * q < y * p → p * m ≤ q * n → 1 ≤ m → x * m < y * n
across x y p q m n h l some = lt_of_mul-lt-mul_right q scaled
  where
    scaled : x * m * q < y * n * q
    scaled =
        let a : x * q * m < y * p * m = mul-lt-mul_of_pos_right h some in
        let b : y * (p * m) ≤ y * (q * n) = mul-le-mul_left y l in
        omega arith

across_most : (x y p q m n : ℕ) → x * q ≤ y * p → p * m ≤ q * n → 1 ≤ q → x * m ≤ y * n
across_most x y p q m n h l some = le_of_mul-le-mul_right {k = q} scaled some
  where
    scaled : x * m * q ≤ y * n * q
    scaled =
        let a : x * q * m ≤ y * p * m = mul-le-mul_right m h in
        let b : y * (p * m) ≤ y * (q * n) = mul-le-mul_left y l in
        omega arith

stepped : (z n t d w q p q' p' q'' p'' : ℕ) → z * q ≤ n * p → n * q' < t * d * p'
    → d * q'' ≤ w * p'' → 1 ≤ p * q'' → z * (q * (q' * q'')) < t * w * (p * (p' * p''))
stepped z n t d w q p q' p' q'' p'' h l k some =
    let x : z * q * (q' * q'') ≤ n * p * (q' * q'') = mul-le-mul_right (q' * q'') h in
    let y : n * q' * (p * q'') < t * d * p' * (p * q'') = mul-lt-mul_of_pos_right l some in
    let v : t * p * p' * (d * q'') ≤ t * p * p' * (w * p'') = mul-le-mul_left (t * p * p') k in
    omega arith

pub low_near : (z w num den low near i s j steps b : ℕ) → IsNear num z i
    → IsLessNear (2 ^ (low + 1) * den) num s → IsNear w den j → i + (s + j) ≡ b * steps
    → IsWide near steps
    → z * (near - 1) ^ b < 2 ^ (low + 1) * near ^ b * w
low_near z w num den low near i s j steps b h l k e wide =
    let x : z * ((2 ^ 60) ^ i * ((2 ^ 60) ^ s * (2 ^ 60) ^ j)) < 2 ^ (low + 1) * w *
    ((2 ^ 60 + 1) ^ i * ((2 ^ 60 + 1) ^ s * (2 ^ 60 + 1) ^ j))
    = stepped z num (2 ^ (low + 1)) den w ((2 ^ 60) ^ i) ((2 ^ 60 + 1) ^ i) ((2 ^ 60) ^ s)
    ((2 ^ 60 + 1) ^ s) ((2 ^ 60) ^ j) ((2 ^ 60 + 1) ^ j) h.near l.near k.near
    (one-le-mul (one-le-pow i (2 ^ 60 + 1) (omega arith)) (one-le-pow j (2 ^ 60) (omega arith))) in
    let t : z * (2 ^ 60) ^ (b * steps) < 2 ^ (low + 1) * w * (2 ^ 60 + 1) ^ (b * steps)
    = rw (
      ← e,
      pow-add (2 ^ 60) i (s + j),
      pow-add (2 ^ 60) s j,
      pow-add (2 ^ 60 + 1) i (s + j),
      pow-add (2 ^ 60 + 1) s j,
    ) x in
    let some = wide.some in
    let r : z * (near - 1) ^ b < 2 ^ (low + 1) * w * near ^ b
    = across z (2 ^ (low + 1) * w) ((2 ^ 60 + 1) ^ (b * steps)) ((2 ^ 60) ^ (b * steps))
    ((near - 1) ^ b) (near ^ b) t (raised_wide near steps b wide)
    (one-le-pow b (near - 1) (omega arith)) in
    omega arith

pub high_near : (z w num den high near i s j steps b : ℕ) → IsNear z num i
    → IsNear num (2 ^ high * den) s → IsNear den w j → i + s + (0 + j) ≡ b * steps
    → IsWide near steps
    → 2 ^ high * (near - 1) ^ b * w ≤ z * near ^ b
high_near z w num den high near i s j steps b h l k e wide =
    let c : IsNear (2 ^ high * den) (2 ^ high * w) (0 + j) = near-mul (2 ^ high) (2 ^ high) den w 0
    j (near_same (2 ^ high)) k in
    let d = near_trans z (2 ^ high * den) (2 ^ high * w) (i + s) (0 + j)
    (near_trans z num (2 ^ high * den) i s h l) c in
    let t : 2 ^ high * w * (2 ^ 60) ^ (b * steps) ≤ z * (2 ^ 60 + 1) ^ (b * steps) = rw e at d.near
    in
    let r : 2 ^ high * w * (near - 1) ^ b ≤ z * near ^ b
    = across_most (2 ^ high * w) z ((2 ^ 60 + 1) ^ (b * steps)) ((2 ^ 60) ^ (b * steps))
    ((near - 1) ^ b) (near ^ b) t (raised_wide near steps b wide)
    (one-le-pow (b * steps) (2 ^ 60) (omega arith)) in
    omega arith

pub wide_power : (steps : ℕ) → steps ≤ 2 → IsWide (2 ^ 59) steps
wide_power steps h = wide_of (2 ^ 59) steps 2 (omega arith) (omega arith) refl h

pub wide_exact : (steps : ℕ) → steps ≤ 4 → IsWide (2 ^ 58) steps
wide_exact steps h = wide_of (2 ^ 58) steps 4 (omega arith) (omega arith) refl h

pub wide_graded : (steps : ℕ) → steps ≤ 2 ^ 18 → IsWide (2 ^ 42) steps
wide_graded steps h = wide_of (2 ^ 42) steps (2 ^ 18) (omega arith) (omega arith) refl h

pub wide_large : (steps : ℕ) → steps ≤ 2 ^ 21 → IsWide (2 ^ 39) steps
wide_large steps h = wide_of (2 ^ 39) steps (2 ^ 21) (omega arith) (omega arith) refl h

-- an end of a gain and two steps for each factor of its power
pub wide_room : (most_trades grade : ℕ) → grade ≤ grade_room most_trades
    → IsWide (sharpness most_trades) (grade + 2)
wide_room most_trades grade = at_room (λ (near room : ℕ). grade ≤ room → IsWide near (grade + 2))
    (λ small. wide_graded (grade + 2) (omega arith)) (λ small. wide_large (grade + 2) (omega arith))
    most_trades

pub room_small : (most_trades : ℕ) → grade_room most_trades ≤ 2 ^ 20
room_small = at_room (λ (near room : ℕ). room ≤ 2 ^ 20) (omega arith) (omega arith)

-- two steps for each trade
pub wide_trades : (most_trades count : ℕ) → count ≤ most_trades → count ≤ max_market_trades
    → IsWide (sharpness most_trades) (2 * count + 2)
wide_trades most_trades count few many = by_trades (λ (near : ℕ). IsWide near (2 * count + 2))
    most_trades (λ usual. wide_graded (2 * count + 2) (omega arith))
    (λ large. wide_large (2 * count + 2) (omega arith))

-- ---- a number between two ends

-- a number between two ends that are near each other
pub record IsBetween (number lo hi grade : ℕ) : Type 0 where
  pub lower : lo ≤ number
  pub upper : number ≤ hi
  pub near : IsNear lo hi grade

module _ (b number lo hi grade : ℕ) (is : IsBetween number lo hi grade) where
  pub near_above : IsNear (number ^ b) (hi ^ b) (b * grade)
  near_above = near_between (lo ^ b) (number ^ b) (hi ^ b) (hi ^ b) (b * grade)
      (pow-le-pow_left is.lower b) (le_refl (hi ^ b)) (near_power lo hi grade b is.near)

  pub near_below : IsNear (lo ^ b) (number ^ b) (b * grade)
  near_below = near_between (lo ^ b) (lo ^ b) (number ^ b) (hi ^ b) (b * grade) (le_refl (lo ^ b))
      (pow-le-pow_left is.upper b) (near_power lo hi grade b is.near)

pub exactly : (number lo hi grade : ℕ) → IsBetween number lo hi grade → lo ≡ hi
    → IsBetween number lo hi 0
exactly number lo hi grade is e = record {
  lower = is.lower;
  upper = is.upper;
  near = rw e
      (near_same hi);
}
