-- The whole bits of a power, by its bounds.
use Rattle.std.proofs.Common.{◌≡◌, ℕ, zero, suc, ◌+◌, ◌-◌, ◌*◌, ◌^◌, ◌<◌, ◌≤◌, sym, ap, ◌∙◌, arith}
use Rattle.std.proofs.Common.{le_trans, lt_of_le_of_lt, lt_of_lt_of_le}
use Rattle.std.proofs.Math.Nat.{pow-suc, pow-zero, pow-le-pow_left}
use Rattle.std.proofs.lemmas.Nat.{pow-add, pow_pos}
use Rattle.mk_scaled.specs.Near.{IsNear, near_trans, near_width}
use Rattle.mk_scaled.specs.Range.{IsInRange, two_to-small, pow-lt_reflects}

pub power_times : (a e b : ℕ) → (a ^ e) ^ b ≡ a ^ (e * b)
power_times a e zero = let s : e * zero ≡ 0 = omega arith in pow-zero (a ^ e) ∙ sym
    (ap (λ k. a ^ k) s ∙ pow-zero a)
power_times a e (suc b) =
    let s : e * b + e ≡ e * suc b = omega arith in
    pow-suc (a ^ e) b ∙ ap (λ k. k * a ^ e) (power_times a e b) ∙ sym (pow-add a (e * b) e)
    ∙ ap (λ k. a ^ k) s

pub double : (k : ℕ) → 2 ^ (k + 1) ≡ 2 * 2 ^ k
double k = pow-add 2 k 1 ∙ (let x = 2 ^ k in omega arith)

-- a number below 2^63 has a power of at most so many bits
pub power_at_most : (n k : ℕ) → n < 2 ^ 63 → n ^ k ≤ 2 ^ (63 * k)
power_at_most n k l =
    let h : n ≤ 2 ^ 63 = omega arith in
    rw (← power_times 2 63 k) (pow-le-pow_left h k)

-- which is in range
pub power_in_range : (n k : ℕ) → n < 2 ^ 63 → k ≤ 2 ^ 20 → IsInRange (n ^ k)
power_in_range n k l few =
    let more : 2 ^ (63 * k) < 2 ^ (63 * k + 1) =
    (let e = double (63 * k) in let p = pow_pos (63 * k) in omega arith) in
    lt_of_le_of_lt (power_at_most n k l)
    (lt_of_lt_of_le more (two_to-small (2 ^ 50) (63 * k + 1) (omega arith)))

-- the whole bits of a number are at most those of one that is not less
pub bits_at_most : (x y i j : ℕ) → 2 ^ i ≤ x → x ≤ y → y < 2 ^ (j + 1) → i ≤ j
bits_at_most x y i j h l k =
    let below = pow-lt_reflects i (j + 1) (lt_of_le_of_lt (le_trans h l) k) in omega arith

at_most_twice : (low high steps : ℕ) → steps ≤ 2 ^ 22 → IsNear low high steps → high ≤ 2 * low
at_most_twice low high steps few near =
    twice (2 ^ 60 - steps) (omega arith) (near_width low high steps near)
  where
    twice : (c : ℕ) → 2 ^ 59 ≤ c → high * c ≤ low * 2 ^ 60 → high ≤ 2 * low
    twice c l h =
        let m : high * 2 ^ 59 ≤ high * c = grows c l in omega (arith, m, h)
      where
        grows : (c : ℕ) → 2 ^ 59 ≤ c → high * 2 ^ 59 ≤ high * c
        grows c l = grind arith

-- a power's two ends have the same whole bits, or one more
pub bits_near : (low x high i j power : ℕ) → power ≤ 2 ^ 20 → IsNear low x (2 * power)
    → IsNear x high (2 * power) → low < 2 ^ (i + 1) → 2 ^ j ≤ high → j ≤ i + 1
bits_near low x high i j power few h l a b =
    let twice = at_most_twice low high (2 * power + 2 * power) (omega arith)
    (near_trans low x high (2 * power) (2 * power) h l) in
    let e = double (i + 1) in
    bits_at_most (2 ^ j) high j (i + 1) (omega arith) b (omega arith)

-- and the upper one few
pub bits_few : (low n high j power : ℕ) → power ≤ 2 ^ 20 → n < 2 ^ 63 → low ≤ n ^ power
    → IsNear low (n ^ power) (2 * power) → IsNear (n ^ power) high (2 * power) → 2 ^ j ≤ high
    → j ≤ 63 * power + 1
bits_few low n high j power few fits below h l b =
    let twice = at_most_twice (n ^ power) high (2 * power) (omega arith) l in
    let most = power_at_most n power fits in
    let e = double (63 * power) in
    let f = double (63 * power + 1) in
    let some = pow_pos (63 * power) in
    bits_at_most (2 ^ j) high j (63 * power + 1) (omega arith) b (omega arith)
