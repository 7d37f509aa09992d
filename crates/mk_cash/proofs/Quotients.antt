-- The quotient of two numbers whose bits are known, rounded, and its powers.
use Rattle.std.proofs.Common.{◌≡◌, ℕ, ◌+◌, ◌-◌, ◌*◌, ◌/◌, ◌^◌, ◌<◌, ◌≤◌, true, false, ltb, eqb, sym, ap, ◌∙◌, ⊎_elim, arith, le_refl, le_trans, lt_of_le_of_lt, nat_cmp, is_lt, eq-eqb, ne_eqb}
use Rattle.std.specs.Int.{div_ceil}
use Rattle.std.proofs.Math.Nat.{pow-zero, mul-le-mul, mul-le-mul_left, mul-le-mul_right, mul-lt-mul_of_pos_right, one-le-mul, one-le-pow, pow-le-pow_left, le_of_mul-le-mul_right, lt_of_mul-lt-mul_right, div-mul-le_self, lt-div-mul-add}
use Rattle.std.proofs.lemmas.Bool.{cases_lt, lt-ltb, le-ltb}
use Rattle.std.proofs.lemmas.Grind.{div_ceil_times}
use Rattle.std.proofs.lemmas.Nat.{pow-add, mul-pow, pow_pos}
use Rattle.mk_scaled.specs.Near.{IsNear, near-mul, near_trans, near_same, near_self, near_step, near_between}
use Rattle.mk_scaled.specs.Range.{two_to, IsInRange, two_to-small, two_to-suc, two_to-lt, exponent_below, power_in_range, pow-lt_reflects, pow_le}
use Rattle.mk_cash.specs.inner.Quotient.{IsLessNear}
use Rattle.mk_cash.proofs.Nearness.{near_power}
use Rattle.mk_cash.proofs.Covering.{power_of_power}

-- ---- what a comparison says

pub not_less : (a b : ℕ) → is_lt (nat_cmp a b) ≡ false → b ≤ a
not_less a b h = ⊎_elim (λ l. absurd (let e = lt-ltb a b l in cc)) (λ l. l) (cases_lt a b)

pub is_less : (a b : ℕ) → is_lt (nat_cmp a b) ≡ true → a < b
is_less a b h = ⊎_elim (λ l. l) (λ l. absurd (⊎_elim (λ m. same (omega arith)) less (cases_lt a (b + 1)))) (cases_lt a b)
  where
    less : b + 1 ≤ a → ⊥
    less l = let e : ltb a b ≡ false = le-ltb a b (omega arith) in let f : eqb a b ≡ false = ne_eqb a b (λ g. omega arith) in cc

    same : a ≡ b → ⊥
    same g = let e : ltb a b ≡ false = le-ltb a b (omega arith) in let f : eqb a b ≡ true = eq-eqb a b g in cc

pub some_den : (d l : ℕ) → 2 ^ l ≤ d → 1 ≤ d
some_den d l h = let p = pow_pos l in omega arith

-- ---- bits

module _ (n d l k : ℕ) (more : d ≤ n) (below : 2 ^ k ≤ d) (above : d < 2 ^ (k + 1)) (low : 2 ^ l ≤ n) (high : n < 2 ^ (l + 1)) where
  pub in_order : k ≤ l
  in_order = let r = pow-lt_reflects k (l + 1) (lt_of_le_of_lt (le_trans below more) high) in omega arith

  -- the lesser, moved to the bits of the greater, is less than twice that, and more than half of it
  pub less_than_twice : d * 2 ^ (l - k) < 2 * n
  less_than_twice =
      let o = in_order in
      let i : k + 1 + (l - k) ≡ l + 1 = omega arith in
      let e : 2 ^ (k + 1) * 2 ^ (l - k) ≡ 2 ^ (l + 1) = sym (pow-add 2 (k + 1) (l - k)) ∙ ap (λ m. 2 ^ m) i in
      let f : 2 ^ (l + 1) ≡ 2 ^ l * 2 = pow-add 2 l 1 in
      let m : d * 2 ^ (l - k) < 2 ^ (k + 1) * 2 ^ (l - k) = mul-lt-mul_of_pos_right above (pow_pos (l - k)) in
      omega arith

  pub more_than_half : n < 2 * (d * 2 ^ (l - k))
  more_than_half =
      let o = in_order in
      let i : k + (l - k) ≡ l = omega arith in
      let e : 2 ^ k * 2 ^ (l - k) ≡ 2 ^ l = sym (pow-add 2 k (l - k)) ∙ ap (λ m. 2 ^ m) i in
      let f : 2 ^ (l + 1) ≡ 2 ^ l * 2 = pow-add 2 l 1 in
      let m : 2 ^ k * 2 ^ (l - k) ≤ d * 2 ^ (l - k) = mul-le-mul_right (2 ^ (l - k)) below in
      omega arith

-- a number in range has few bits
few_bits : (n l : ℕ) → n ≤ two_to 6000 → 2 ^ l ≤ n → l ≤ 6000
few_bits n l h b =
    let m : two_to 6000 < two_to 6001 = two_to-lt 6000 6001 (omega arith) in
    let z = pow-zero 2 in
    let r = exponent_below n 0 l 6001 b (omega arith) in
    omega arith

pub few_together : (n l k b : ℕ) → n ≤ two_to 6000 → 2 ^ l ≤ n → b ≤ 1000000 → (l - k) * b ≤ 6000 * 1000000
few_together n l k b h p q =
    let few = few_bits n l h p in
    let less : l - k ≤ 6000 = omega arith in
    mul-le-mul less q

pub moved_in_range : (n : ℕ) → n ≤ two_to 6000 → IsInRange (n * 4)
moved_in_range n h =
    let s : two_to 6001 ≡ two_to 6000 + two_to 6000 = two_to-suc 6000 in
    let t : two_to 6002 ≡ two_to 6001 + two_to 6001 = two_to-suc 6001 in
    let u : two_to 6002 < two_to (2 ^ 50) = two_to-lt 6002 (2 ^ 50) (omega arith) in
    omega arith

pub double_in_range : (n d : ℕ) → n ≤ two_to 6000 → d < 2 * n → IsInRange d
double_in_range n d h l = let r = moved_in_range n h in omega arith

pub whole_power_in_range : (f b : ℕ) → f ≤ 2 ^ 62 → b ≤ 1000000 → IsInRange (f ^ b)
whole_power_in_range f b h l = power_in_range f 62 b (le_trans h (two_to-small 62 62 (omega arith))) (omega arith)

-- ---- the rounded quotient

pub floor_below : (x d f : ℕ) → f ≡ x / (d * 1) → f * d ≤ x
floor_below x d f e =
    let s : d * 1 ≡ d = omega arith in
    let g : f ≡ x / d = e ∙ ap (λ k. x / k) s in
    rw g (div-mul-le_self x d)

pub floor_close : (x d f : ℕ) → 1 ≤ d → f ≡ x / (d * 1) → x < (f + 1) * d
floor_close x d f p e =
    let s : d * 1 ≡ d = omega arith in
    let g : f ≡ x / d = e ∙ ap (λ k. x / k) s in
    let h : x < x / d * d + d = lt-div-mul-add p in
    rw g (omega arith)

pub ceiling_above : (x d f : ℕ) → 1 ≤ d → f ≡ div_ceil x (d * 1) → x ≤ f * d
ceiling_above x d f p e =
    let s : d * 1 ≡ d = omega arith in
    let g : f ≡ div_ceil x d = e ∙ ap (λ k. div_ceil x k) s in
    rw g (div_ceil_times x d p).0

pub ceiling_close : (x d f : ℕ) → 1 ≤ d → f ≡ div_ceil x (d * 1) → f * d < x + d
ceiling_close x d f p e =
    let s : d * 1 ≡ d = omega arith in
    let g : f ≡ div_ceil x d = e ∙ ap (λ k. div_ceil x k) s in
    rw g (div_ceil_times x d p).1

-- ---- its powers: n / d in units of 2 ^ (k - 61) is nearly f, whose power is nearly g, of m whole bits

-- both sides of the quotient, raised
module _ (n d k b : ℕ) where
  raised_num : (n * 2 ^ 61) ^ b ≡ n ^ b * 2 ^ (b * 61)
  raised_num = mul-pow n (2 ^ 61) b ∙ ap (λ z. n ^ b * z) (power_of_power 61 b)

  raised_den : (d * 2 ^ k) ^ b ≡ d ^ b * 2 ^ (b * k)
  raised_den = mul-pow d (2 ^ k) b ∙ ap (λ z. d ^ b * z) (power_of_power k b)

bits_of : (i j k l : ℕ) → i + j ≡ k + l → 2 ^ i * 2 ^ j ≡ 2 ^ k * 2 ^ l
bits_of i j k l e = sym (pow-add 2 i j) ∙ ap (λ z. 2 ^ z) e ∙ pow-add 2 k l

fewer_bits : (i j k l : ℕ) → i + j ≤ k + l → 2 ^ i * 2 ^ j ≤ 2 ^ k * 2 ^ l
fewer_bits i j k l e = rw (← pow-add 2 i j, ← pow-add 2 k l) (pow_le (i + j) (k + l) e)

module _ (n d k b f g m bits : ℕ) (is : bits ≡ m + k * b - 61 * b) (low : 2 ^ m ≤ g) (high : g < 2 ^ (m + 1)) (some : 1 ≤ d) where
  enough : m + 1 + b * k ≤ bits + 1 + b * 61
  enough = omega arith

  module _ (below : f * (d * 2 ^ k) ≤ n * 2 ^ 61) (down : g ≤ f ^ b) where
    pub down_within : d ≤ n → 2 ^ bits * d ^ b ≤ n ^ b
    down_within l = ⊎_elim none all (cases_lt (m + k * b) (61 * b))
      where
        none : m + k * b < 61 * b → 2 ^ bits * d ^ b ≤ n ^ b
        none h =
            let e : bits ≡ 0 = omega arith in
            let p : d ^ b ≤ n ^ b = pow-le-pow_left l b in
            let z : 2 ^ bits ≡ 1 = ap (λ i. 2 ^ i) e ∙ pow-zero 2 in
            rw z (omega arith)

        all : 61 * b ≤ m + k * b → 2 ^ bits * d ^ b ≤ n ^ b
        all h =
            let s : 2 ^ bits * 2 ^ (b * 61) ≡ 2 ^ m * 2 ^ (b * k) = bits_of bits (b * 61) m (b * k) (omega arith) in
            let x : (f * (d * 2 ^ k)) ^ b ≤ (n * 2 ^ 61) ^ b = pow-le-pow_left below b in
            let y : f ^ b * (d ^ b * 2 ^ (b * k)) ≤ n ^ b * 2 ^ (b * 61) = rw (mul-pow f (d * 2 ^ k) b, raised_den n d k b, raised_num n d k b) at x in
            let v : 2 ^ m * (d ^ b * 2 ^ (b * k)) ≤ f ^ b * (d ^ b * 2 ^ (b * k)) = mul-le-mul_right (d ^ b * 2 ^ (b * k)) (le_trans low down) in
            let w : 2 ^ bits * 2 ^ (b * 61) * d ^ b ≡ 2 ^ m * 2 ^ (b * k) * d ^ b = ap (λ z. z * d ^ b) s in
            le_of_mul-le-mul_right {k = 2 ^ (b * 61)} (omega arith) (pow_pos (b * 61))

  module _ (close : n * 2 ^ 61 < (f + 1) * (d * 2 ^ k)) (full : 2 ^ 60 ≤ f) (near : IsNear g (f ^ b) (2 * b)) where
    quotient_near : IsNear (f * (d * 2 ^ k)) (n * 2 ^ 61) 1
    quotient_near = near_step (f * (d * 2 ^ k)) (n * 2 ^ 61) (let l : 2 ^ 60 * (d * 2 ^ k) ≤ f * (d * 2 ^ k) = mul-le-mul_right (d * 2 ^ k) full in omega arith)

    powers_near : IsNear (g * (d * 2 ^ k) ^ b) ((n * 2 ^ 61) ^ b) (2 * b + 0 + b * 1)
    powers_near = near_trans (g * (d * 2 ^ k) ^ b) ((f * (d * 2 ^ k)) ^ b) ((n * 2 ^ 61) ^ b) (2 * b + 0) (b * 1)
        (rw (mul-pow f (d * 2 ^ k) b) (near-mul g (f ^ b) ((d * 2 ^ k) ^ b) ((d * 2 ^ k) ^ b) (2 * b) 0 near (near_same ((d * 2 ^ k) ^ b))))
        (near_power (f * (d * 2 ^ k)) (n * 2 ^ 61) 1 b quotient_near)

    pub down_near : IsLessNear (2 ^ (bits + 1) * d ^ b) (n ^ b) (3 * b)
    down_near = record { near = lt_of_mul-lt-mul_right (2 ^ (b * 61)) scaled }
      where
        steps : 2 * b + 0 + b * 1 ≡ 3 * b
        steps = omega arith

        scaled : n ^ b * (2 ^ 60) ^ (3 * b) * 2 ^ (b * 61) < 2 ^ (bits + 1) * d ^ b * (2 ^ 60 + 1) ^ (3 * b) * 2 ^ (b * 61)
        scaled =
            let x : n ^ b * 2 ^ (b * 61) * (2 ^ 60) ^ (3 * b) ≤ g * (d ^ b * 2 ^ (b * k)) * (2 ^ 60 + 1) ^ (3 * b) = rw (raised_den n d k b, raised_num n d k b, steps) at powers_near.near in
            let one : 1 ≤ d ^ b * 2 ^ (b * k) * (2 ^ 60 + 1) ^ (3 * b) = one-le-mul (one-le-mul (one-le-pow b d some) (pow_pos (b * k))) (one-le-pow (3 * b) (2 ^ 60 + 1) (omega arith)) in
            let y : g * (d ^ b * 2 ^ (b * k) * (2 ^ 60 + 1) ^ (3 * b)) < 2 ^ (m + 1) * (d ^ b * 2 ^ (b * k) * (2 ^ 60 + 1) ^ (3 * b)) = mul-lt-mul_of_pos_right high one in
            let v : 2 ^ (m + 1) * 2 ^ (b * k) ≤ 2 ^ (bits + 1) * 2 ^ (b * 61) = fewer_bits (m + 1) (b * k) (bits + 1) (b * 61) enough in
            let w : 2 ^ (m + 1) * 2 ^ (b * k) * (d ^ b * (2 ^ 60 + 1) ^ (3 * b)) ≤ 2 ^ (bits + 1) * 2 ^ (b * 61) * (d ^ b * (2 ^ 60 + 1) ^ (3 * b)) = mul-le-mul_right (d ^ b * (2 ^ 60 + 1) ^ (3 * b)) v in
            omega arith

  module _ (above : n * 2 ^ 61 ≤ f * (d * 2 ^ k)) (up : f ^ b ≤ g) where
    pub up_above : n ^ b < 2 ^ (bits + 1) * d ^ b
    up_above = lt_of_mul-lt-mul_right (2 ^ (b * 61)) scaled
      where
        scaled : n ^ b * 2 ^ (b * 61) < 2 ^ (bits + 1) * d ^ b * 2 ^ (b * 61)
        scaled =
            let x : (n * 2 ^ 61) ^ b ≤ (f * (d * 2 ^ k)) ^ b = pow-le-pow_left above b in
            let y : n ^ b * 2 ^ (b * 61) ≤ f ^ b * (d ^ b * 2 ^ (b * k)) = rw (mul-pow f (d * 2 ^ k) b, raised_den n d k b, raised_num n d k b) at x in
            let one : 1 ≤ d ^ b * 2 ^ (b * k) = one-le-mul (one-le-pow b d some) (pow_pos (b * k)) in
            let u : f ^ b * (d ^ b * 2 ^ (b * k)) < 2 ^ (m + 1) * (d ^ b * 2 ^ (b * k)) = mul-lt-mul_of_pos_right (lt_of_le_of_lt up high) one in
            let v : 2 ^ (m + 1) * 2 ^ (b * k) ≤ 2 ^ (bits + 1) * 2 ^ (b * 61) = fewer_bits (m + 1) (b * k) (bits + 1) (b * 61) enough in
            let w : 2 ^ (m + 1) * 2 ^ (b * k) * d ^ b ≤ 2 ^ (bits + 1) * 2 ^ (b * 61) * d ^ b = mul-le-mul_right (d ^ b) v in
            omega arith

  module _ (more : d * 2 ^ k < 2 * n) (close : f * (d * 2 ^ k) < n * 2 ^ 61 + d * 2 ^ k) (near : IsNear (f ^ b) g (2 * b)) where
    quotient_over : IsNear (n * 2 ^ 61) (f * (d * 2 ^ k)) 1
    quotient_over = near_step (n * 2 ^ 61) (f * (d * 2 ^ k)) (omega arith)

    powers_over : IsNear ((n * 2 ^ 61) ^ b) (g * (d * 2 ^ k) ^ b) (b * 1 + (2 * b + 0))
    powers_over = near_trans ((n * 2 ^ 61) ^ b) ((f * (d * 2 ^ k)) ^ b) (g * (d * 2 ^ k) ^ b) (b * 1) (2 * b + 0)
        (near_power (n * 2 ^ 61) (f * (d * 2 ^ k)) 1 b quotient_over)
        (rw (mul-pow f (d * 2 ^ k) b) (near-mul (f ^ b) g ((d * 2 ^ k) ^ b) ((d * 2 ^ k) ^ b) (2 * b) 0 near (near_same ((d * 2 ^ k) ^ b))))

    pub up_near : d ≤ n → IsNear (n ^ b) (2 ^ bits * d ^ b) (3 * b)
    up_near l = ⊎_elim none all (cases_lt (m + k * b) (61 * b))
      where
        steps : b * 1 + (2 * b + 0) ≡ 3 * b
        steps = omega arith

        none : m + k * b < 61 * b → IsNear (n ^ b) (2 ^ bits * d ^ b) (3 * b)
        none h =
            let e : bits ≡ 0 = omega arith in
            let p : d ^ b ≤ n ^ b = pow-le-pow_left l b in
            let z : 2 ^ bits ≡ 1 = ap (λ i. 2 ^ i) e ∙ pow-zero 2 in
            let q : 1 * d ^ b ≤ n ^ b = omega arith in
            rw z (near_between (n ^ b) (n ^ b) (1 * d ^ b) (n ^ b) (3 * b) (le_refl (n ^ b)) q (near_self (n ^ b) (3 * b)))

        all : 61 * b ≤ m + k * b → IsNear (n ^ b) (2 ^ bits * d ^ b) (3 * b)
        all h = record { near = le_of_mul-le-mul_right {k = 2 ^ (b * 61)} scaled (pow_pos (b * 61)) }
          where
            scaled : 2 ^ bits * d ^ b * (2 ^ 60) ^ (3 * b) * 2 ^ (b * 61) ≤ n ^ b * (2 ^ 60 + 1) ^ (3 * b) * 2 ^ (b * 61)
            scaled =
                let s : 2 ^ bits * 2 ^ (b * 61) ≡ 2 ^ m * 2 ^ (b * k) = bits_of bits (b * 61) m (b * k) (omega arith) in
                let x : g * (d ^ b * 2 ^ (b * k)) * (2 ^ 60) ^ (3 * b) ≤ n ^ b * 2 ^ (b * 61) * (2 ^ 60 + 1) ^ (3 * b) = rw (raised_den n d k b, raised_num n d k b, steps) at powers_over.near in
                let v : 2 ^ m * (d ^ b * 2 ^ (b * k) * (2 ^ 60) ^ (3 * b)) ≤ g * (d ^ b * 2 ^ (b * k) * (2 ^ 60) ^ (3 * b)) = mul-le-mul_right (d ^ b * 2 ^ (b * k) * (2 ^ 60) ^ (3 * b)) low in
                let w : 2 ^ bits * 2 ^ (b * 61) * (d ^ b * (2 ^ 60) ^ (3 * b)) ≡ 2 ^ m * 2 ^ (b * k) * (d ^ b * (2 ^ 60) ^ (3 * b)) = ap (λ z. z * (d ^ b * (2 ^ 60) ^ (3 * b))) s in
                omega arith

-- ---- a quotient below one

pub less_power : (n d b : ℕ) → n < d → n ^ b < 2 * d ^ b
less_power n d b h =
    let p : n ^ b ≤ d ^ b = pow-le-pow_left (omega arith) b in
    let q : 1 ≤ d ^ b = one-le-pow b d (omega arith) in
    omega arith

pub less_near : (n d b s : ℕ) → n < d → IsLessNear (2 * d ^ b) (n ^ b) s
less_near n d b s h = record {
  near =
      let p : (2 ^ 60) ^ s ≤ (2 ^ 60 + 1) ^ s = pow-le-pow_left (omega arith) s in
      let x : n ^ b * (2 ^ 60) ^ s ≤ n ^ b * (2 ^ 60 + 1) ^ s = mul-le-mul_left (n ^ b) p in
      let y : n ^ b * (2 ^ 60 + 1) ^ s < 2 * d ^ b * (2 ^ 60 + 1) ^ s = mul-lt-mul_of_pos_right (less_power n d b h) (one-le-pow s (2 ^ 60 + 1) (omega arith)) in
      omega arith;
}
