-- How steps of rounding add up.
use Rattle.std.specs.Prelude.{◌≡◌, ℕ, zero, suc, ◌+◌, ◌-◌, ◌*◌, ◌^◌, ◌≤◌}
use Rattle.std.proofs.Common.{sym, ap, ◌∙◌, arith, le_trans, le_refl}
use Rattle.std.proofs.lemmas.Nat.{pow-add}
use Rattle.std.proofs.Math.Nat.{pow-suc, pow-zero, mul-le-mul_left, mul-le-mul_right, mul_assoc, mul_comm, mul_right_comm, le_of_mul-le-mul_right, one-le-pow}
use Rattle.mk_scaled.specs.Near.{near-mul-base, width_law}
use Rattle.mk_cell.specs.Cell.{IsClose}

pub close_same : (n : ℕ) → IsClose n n 0
close_same n = record { close = rw (pow-zero (2 ^ 63), pow-zero (2 ^ 63 + 1)) (le_refl _) }

pub close_step : (low high : ℕ) → high * 2 ^ 63 ≤ low * (2 ^ 63 + 1) → IsClose low high 1
close_step low high h = record { close = h }

pub close-mul : (low high low' high' i j : ℕ) → IsClose low high i → IsClose low' high' j → IsClose (low * low') (high * high') (i + j)
close-mul low high low' high' i j h l = record {
  close = rw (pow-add (2 ^ 63) i j, pow-add (2 ^ 63 + 1) i j)
      (near-mul-base high low high' low' ((2 ^ 63) ^ i) ((2 ^ 63 + 1) ^ i) ((2 ^ 63) ^ j) ((2 ^ 63 + 1) ^ j) h.close l.close);
}

chain_base : (a b c p q r s : ℕ) → b * p ≤ a * q → c * r ≤ b * s → c * (p * r) ≤ a * (q * s)
chain_base a b c p q r s h l =
    let x : (c * r) * p ≤ (b * s) * p = mul-le-mul_right p l in
    let y : (b * p) * s ≤ (a * q) * s = mul-le-mul_right s h in
    let i : c * (p * r) ≡ (c * r) * p = ap (λ y. c * y) (mul_comm p r) ∙ sym (mul_assoc c r p) in
    let j : (b * s) * p ≡ (b * p) * s = mul_right_comm b s p in
    let k : (a * q) * s ≡ a * (q * s) = mul_assoc a q s in
    rw (i, ← k) (le_trans x (rw j y))

pub close_trans : (a b c i j : ℕ) → IsClose a b i → IsClose b c j → IsClose a c (i + j)
close_trans a b c i j h l = record {
  close = rw (pow-add (2 ^ 63) i j, pow-add (2 ^ 63 + 1) i j)
      (chain_base a b c ((2 ^ 63) ^ i) ((2 ^ 63 + 1) ^ i) ((2 ^ 63) ^ j) ((2 ^ 63 + 1) ^ j) h.close l.close);
}

-- what is between stays close
pub close_between : (a b c d n : ℕ) → a ≤ b → c ≤ d → IsClose a d n → IsClose b c n
close_between a b c d n h l k = record {
  close = le_trans (mul-le-mul_right ((2 ^ 63) ^ n) l) (le_trans k.close (mul-le-mul_right ((2 ^ 63 + 1) ^ n) h));
}

pub close_self : (n i : ℕ) → IsClose n n i
close_self n zero = close_same n
close_self n (suc i) =
    let h = close_self n i in
    record { close = let e = close_trans n n n i 1 h (close_step n n (omega arith)) in let s : suc i ≡ i + 1 = omega arith in rw s e.close }

pub close_more : (a b i j : ℕ) → i ≤ j → IsClose a b i → IsClose a b j
close_more a b i j h l =
    let s : j ≡ i + (j - i) = omega arith in
    rw s (close_trans a b b i (j - i) l (close_self b (j - i)))

-- ---- in other parts, and sums

times_out : (a k p : ℕ) → (a * k) * p ≡ (a * p) * k
times_out a k p = mul_right_comm a k p

pub close_scaled : (a b k n : ℕ) → IsClose a b n → IsClose (a * k) (b * k) n
close_scaled a b k n h = record {
  close = rw (times_out b k ((2 ^ 63) ^ n), times_out a k ((2 ^ 63 + 1) ^ n)) (mul-le-mul_right k h.close);
}

pub close_unscaled : (a b k n : ℕ) → 1 ≤ k → IsClose (a * k) (b * k) n → IsClose a b n
close_unscaled a b k n p h = record {
  close =
      let l : (b * (2 ^ 63) ^ n) * k ≤ (a * (2 ^ 63 + 1) ^ n) * k =
      rw (times_out b k ((2 ^ 63) ^ n), times_out a k ((2 ^ 63 + 1) ^ n)) at h.close in
      le_of_mul-le-mul_right l p;
}

added : (a b c d p q : ℕ) → b * p ≤ a * q → d * p ≤ c * q → (b + d) * p ≤ (a + c) * q
added a b c d p q h l = omega arith

pub close-add : (a b c d n : ℕ) → IsClose a b n → IsClose c d n → IsClose (a + c) (b + d) n
close-add a b c d n h l = record { close = added a b c d ((2 ^ 63) ^ n) ((2 ^ 63 + 1) ^ n) h.close l.close }

nothing : (b p q : ℕ) → 1 ≤ p → b * p ≤ 0 * q → b ≡ 0
nothing b p q l h = let m : b * 1 ≤ b * p = mul-le-mul_left b l in omega arith

-- nothing is close to 0 but 0
pub close_zero : (b n : ℕ) → IsClose 0 b n → b ≡ 0
close_zero b n h =
    nothing b ((2 ^ 63) ^ n) ((2 ^ 63 + 1) ^ n) (let p : 1 ≤ 2 ^ 63 = omega arith in one-le-pow n (2 ^ 63) p) h.close

-- ---- parts that are lost

-- c parts beside 2 ^ 63 are c steps
pub close_loss : (t c : ℕ) → 2 ^ 63 ≤ t → IsClose t (t + c) c
close_loss t zero h = let s : t + 0 ≡ t = omega arith in rw s (close_same t)
close_loss t (suc c) h =
    let s : suc c ≡ c + 1 = omega arith in
    rw s (close_trans t (t + c) (t + (c + 1)) c 1 (close_loss t c h) (close_step (t + c) (t + (c + 1)) (omega arith)))

-- one part beside 2 ^ 62 is two
half_step : (t : ℕ) → 2 ^ 62 ≤ t → IsClose t (t + 1) 2
half_step t h = record { close = omega arith }

pub close_loss_half : (t c : ℕ) → 2 ^ 62 ≤ t → IsClose t (t + c) (2 * c)
close_loss_half t zero h = let s : t + 0 ≡ t = omega arith in rw s (close_same t)
close_loss_half t (suc c) h =
    let s : 2 * suc c ≡ 2 * c + 2 = omega arith in
    let r : t + suc c ≡ (t + c) + 1 = omega arith in
    rw (s, r) (close_trans t (t + c) ((t + c) + 1) (2 * c) 2 (close_loss_half t c h) (half_step (t + c) (omega arith)))

-- ---- the width of steps

width_base : (b g low high : ℕ) → 1 ≤ b → high * b ^ g ≤ low * (b + 1) ^ g → high * (b - g) ≤ low * b
width_base b g low high p h =
    let l : (high * b ^ g) * (b - g) ≤ (low * (b + 1) ^ g) * (b - g) = mul-le-mul_right (b - g) h in
    let m : low * ((b + 1) ^ g * (b - g)) ≤ low * b ^ suc g = mul-le-mul_left low (width_law b g) in
    let i : (high * b ^ g) * (b - g) ≡ (high * (b - g)) * b ^ g = mul_right_comm high (b ^ g) (b - g) in
    let j : low * b ^ suc g ≡ (low * b) * b ^ g = ap (λ z. low * z) (pow-suc b g ∙ mul_comm (b ^ g) b) ∙ sym (mul_assoc low b (b ^ g)) in
    let k : (high * (b - g)) * b ^ g ≤ (low * b) * b ^ g =
    rw (← i, ← j) (le_trans l (rw (mul_assoc low ((b + 1) ^ g) (b - g)) m)) in
    le_of_mul-le-mul_right k (one-le-pow g b p)

pub close_width : (low high n : ℕ) → IsClose low high n → high * (2 ^ 63 - n) ≤ low * 2 ^ 63
close_width low high n h = width_base (2 ^ 63) n low high (omega arith) h.close
