-- How far rounding steps carry a result: each step multiplies by at most 1 + 2 ^ -60.
use Rattle.std.specs.Prelude.{◌≡◌, ℕ, zero, suc, ◌+◌, ◌-◌, ◌*◌, ◌^◌, ◌≤◌}
use Rattle.std.proofs.Common.{sym, ap, ◌∙◌, ⊎_elim, arith, le_trans, le_refl}
use Rattle.std.proofs.lemmas.Bool.{cases_lt}
use Rattle.std.proofs.lemmas.Nat.{pow-add}
use Rattle.std.proofs.Math.Nat.{pow-suc, pow-zero, mul-le-mul, mul-le-mul_left, mul-le-mul_right, mul-mul-mul_comm, mul_assoc, mul_comm, mul_right_comm, le_of_mul-le-mul_right, one-le-pow}

-- high is at most low times (1 + 2 ^ -60) ^ steps
pub record IsNear (low high steps : ℕ) : Type 0 where
  pub near : high * (2 ^ 60) ^ steps ≤ low * (2 ^ 60 + 1) ^ steps

pub near_same : (n : ℕ) → IsNear n n 0
near_same n = record { near = rw (pow-zero (2 ^ 60), pow-zero (2 ^ 60 + 1)) (le_refl _) }

-- one step of rounding
pub near_step : (low high : ℕ) → high * 2 ^ 60 ≤ low * (2 ^ 60 + 1) → IsNear low high 1
near_step low high h = record { near = h }

-- ---- over any base

swap_last : (a b c d : ℕ) → (a * b) * (c * d) ≡ (a * c) * (b * d)
swap_last a b c d = mul-mul-mul_comm a b c d

pub near-mul-base : (a b c d p q r s : ℕ) → a * p ≤ b * q → c * r ≤ d * s → (a * c) * (p * r) ≤ (b * d) * (q * s)
near-mul-base a b c d p q r s h l =
    rw (swap_last a c p r, swap_last b d q s) (mul-le-mul h l)

-- steps add up, in a chain and in a product
pub near-mul : (low high low' high' i j : ℕ) → IsNear low high i → IsNear low' high' j → IsNear (low * low') (high * high') (i + j)
near-mul low high low' high' i j h l = record {
  near = rw (pow-add (2 ^ 60) i j, pow-add (2 ^ 60 + 1) i j)
      (near-mul-base high low high' low' ((2 ^ 60) ^ i) ((2 ^ 60 + 1) ^ i) ((2 ^ 60) ^ j) ((2 ^ 60 + 1) ^ j) h.near l.near);
}

chain_base : (a b c p q r s : ℕ) → b * p ≤ a * q → c * r ≤ b * s → c * (p * r) ≤ a * (q * s)
chain_base a b c p q r s h l =
    let x : (c * r) * p ≤ (b * s) * p = mul-le-mul_right p l in
    let y : (b * p) * s ≤ (a * q) * s = mul-le-mul_right s h in
    let i : c * (p * r) ≡ (c * r) * p = ap (λ y. c * y) (mul_comm p r) ∙ sym (mul_assoc c r p) in
    let j : (b * s) * p ≡ (b * p) * s = mul_right_comm b s p in
    let k : (a * q) * s ≡ a * (q * s) = mul_assoc a q s in
    rw (i, ← k) (le_trans x (rw j y))

pub near_trans : (a b c i j : ℕ) → IsNear a b i → IsNear b c j → IsNear a c (i + j)
near_trans a b c i j h l = record {
  near = rw (pow-add (2 ^ 60) i j, pow-add (2 ^ 60 + 1) i j)
      (chain_base a b c ((2 ^ 60) ^ i) ((2 ^ 60 + 1) ^ i) ((2 ^ 60) ^ j) ((2 ^ 60 + 1) ^ j) h.near l.near);
}

-- what is between stays near
pub near_between : (a b c d n : ℕ) → a ≤ b → c ≤ d → IsNear a d n → IsNear b c n
near_between a b c d n h l k = record {
  near = le_trans (mul-le-mul_right ((2 ^ 60) ^ n) l) (le_trans k.near (mul-le-mul_right ((2 ^ 60 + 1) ^ n) h));
}

pub near_self : (n i : ℕ) → IsNear n n i
near_self n zero = near_same n
near_self n (suc i) =
    let h = near_self n i in
    record { near = let e = near_trans n n n i 1 h (near_step n n (omega arith)) in let s : suc i ≡ i + 1 = omega arith in rw s e.near }

pub near_more : (a b i j : ℕ) → i ≤ j → IsNear a b i → IsNear a b j
near_more a b i j h l =
    let s : j ≡ i + (j - i) = omega arith in
    rw s (near_trans a b b i (j - i) l (near_self b (j - i)))

-- ---- the law on widths

-- (b + 1) ^ g * (b - g) is at most b ^ (g + 1)
step_smaller : (c g : ℕ) → (c + g + 2) * c ≤ (c + g + 1) * (c + 1)
step_smaller c g = omega arith

law_step : (b g c x y : ℕ) → b ≡ c + g + 1 → x * (c + 1) ≤ y → (x * (b + 1)) * c ≤ y * b
law_step b g c x y e h =
    let s : (b + 1) * c ≤ b * (c + 1) = rw e (omega arith) in
    let l : x * ((b + 1) * c) ≤ x * (b * (c + 1)) = mul-le-mul_left x s in
    let i : x * (b * (c + 1)) ≡ (x * (c + 1)) * b = ap (λ z. x * z) (mul_comm b (c + 1)) ∙ sym (mul_assoc x (c + 1) b) in
    rw (mul_assoc x (b + 1) c) (le_trans l (rw i (mul-le-mul_right b h)))

pub width_law : (b g : ℕ) → (b + 1) ^ g * (b - g) ≤ b ^ suc g
width_law b zero = rw (pow-zero (b + 1), pow-suc b 0, pow-zero b) (omega arith)
width_law b (suc g) =
    let h = width_law b g in
    rw (pow-suc (b + 1) g, pow-suc b (suc g))
    (⊎_elim
    (λ l.
    let c : ℕ = b - suc g in
    let e : b ≡ (b - suc g) + g + 1 = omega arith in
    let i : b - g ≡ (b - suc g) + 1 = omega arith in
    law_step b g (b - suc g) ((b + 1) ^ g) (b ^ suc g) e (rw i at h))
    (λ l. let z : b - suc g ≡ 0 = omega arith in rw z (omega arith))
    (cases_lt g b))

width_base : (b g low high : ℕ) → 1 ≤ b → high * b ^ g ≤ low * (b + 1) ^ g → high * (b - g) ≤ low * b
width_base b g low high p h =
    let l : (high * b ^ g) * (b - g) ≤ (low * (b + 1) ^ g) * (b - g) = mul-le-mul_right (b - g) h in
    let m : low * ((b + 1) ^ g * (b - g)) ≤ low * b ^ suc g = mul-le-mul_left low (width_law b g) in
    let i : (high * b ^ g) * (b - g) ≡ (high * (b - g)) * b ^ g = mul_right_comm high (b ^ g) (b - g) in
    let j : low * b ^ suc g ≡ (low * b) * b ^ g = ap (λ z. low * z) (pow-suc b g ∙ mul_comm (b ^ g) b) ∙ sym (mul_assoc low b (b ^ g)) in
    let k : (high * (b - g)) * b ^ g ≤ (low * b) * b ^ g =
    rw (← i, ← j) (le_trans l (rw (mul_assoc low ((b + 1) ^ g) (b - g)) m)) in
    le_of_mul-le-mul_right k (one-le-pow g b p)

-- the law as it is used: high * (2 ^ 60 - g) is at most low * 2 ^ 60
pub near_width : (low high g : ℕ) → IsNear low high g → high * (2 ^ 60 - g) ≤ low * 2 ^ 60
near_width low high g h = width_base (2 ^ 60) g low high (omega arith) h.near
