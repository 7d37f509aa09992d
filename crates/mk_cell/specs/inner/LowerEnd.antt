-- The rules of lower ends.
use Rattle.std.specs.Prelude.{◌≡◌, ℕ, zero, suc, ◌+◌, ◌-◌, ◌*◌, ◌^◌, ◌<◌, ◌≤◌}
use Rattle.std.proofs.Common.{sym, ap, ◌∙◌, ⊎_elim, arith, le_trans, le_refl, lt_of_lt_of_le}
use Rattle.std.proofs.lemmas.Bool.{cases_lt}
use Rattle.std.proofs.lemmas.Nat.{pow-add}
use Rattle.std.proofs.Math.Nat.{pow-suc, mul-le-mul, mul-le-mul_left, mul-le-mul_right, mul_assoc, mul_comm, mul-mul-mul_comm, lt_of_mul-lt-mul_right, le_of_mul-le-mul_right, mul-lt-mul_of_pos_right}
use Rattle.mk_scaled.specs.Range.{pow-lt_reflects}
use Rattle.mk_cell.specs.Cell.{IsLowerEnd}
use Rattle.mk_cell.specs.inner.Close.{close_same, close_step, close-mul, close_trans, close_more, close_scaled, close_unscaled, close_zero}

pub lower_same : (n whole : ℕ) → IsLowerEnd n n whole 0
lower_same n whole = record { below = le_refl n; close = close_same n; same = λ h. refl_of n }
  where
    refl_of : (k : ℕ) → k ≡ k
    refl_of k = omega arith

pub lower_more : (low exact whole n p : ℕ) → n ≤ p → IsLowerEnd low exact whole n → IsLowerEnd low exact whole p
lower_more low exact whole n p h l =
    record { below = l.below; close = close_more low exact n p h l.close; same = l.same }

-- where nothing is there, nothing was
pub lower_none : (v whole n : ℕ) → 1 ≤ whole → IsLowerEnd 0 (v * whole) whole n → v ≡ 0
lower_none v whole n p h = none v whole p (close_zero (v * whole) n h.close)
  where
    none : (a b : ℕ) → 1 ≤ b → a * b ≡ 0 → a ≡ 0
    none a b q e = let m : a * 1 ≤ a * b = mul-le-mul_left a q in omega arith

-- what is there is a whole one
pub at_least_one : (low v whole n : ℕ) → IsLowerEnd low (v * whole) whole n → 0 < low → whole ≤ low
at_least_one low v whole n h p =
    ⊎_elim
    (λ (l : low < 2 ^ 63 * whole). let e : low ≡ v * whole = h.same l in rw e (one_of v whole (omega arith)))
    (λ (l : 2 ^ 63 * whole ≤ low). omega arith)
    (cases_lt low (2 ^ 63 * whole))
  where
    one_of : (a b : ℕ) → 0 < a * b → b ≤ a * b
    one_of zero b q = absurd (omega arith)
    one_of (suc a) b q = omega arith

-- ---- products

factor_below : (a b s t : ℕ) → t ≤ b → a * b < 2 ^ 63 * (s * t) → a < 2 ^ 63 * s
factor_below a b s t h l =
    let m : a * t ≤ a * b = mul-le-mul_left a h in
    let r : 2 ^ 63 * (s * t) ≡ (2 ^ 63 * s) * t = sym (mul_assoc (2 ^ 63) s t) in
    let k : a * t < (2 ^ 63 * s) * t = omega (arith, m, l, r) in
    lt_of_mul-lt-mul_right t k

none_left : (a b x y : ℕ) → a ≡ 0 → x ≡ 0 → a * b ≡ x * y
none_left a b x y h l = rw (h, l) (omega arith)

none_right : (a b x y : ℕ) → b ≡ 0 → y ≡ 0 → a * b ≡ x * y
none_right a b x y h l = rw (h, l) (omega arith)

both_same : (a b x y : ℕ) → a ≡ x → b ≡ y → a * b ≡ x * y
both_same a b x y h l = rw (h, l) (omega arith)

exact_none : (a x whole n : ℕ) → a ≡ 0 → IsLowerEnd a x whole n → x ≡ 0
exact_none a x whole n e h = close_zero x n (rw e at h.close)

product_same : (a b v w s t n p : ℕ) → IsLowerEnd a (v * s) s n → IsLowerEnd b (w * t) t p → a * b < 2 ^ 63 * (s * t) → a * b ≡ (v * s) * (w * t)
product_same a b v w s t n p h l k =
    ⊎_elim
    (λ (q : 0 < a).
    ⊎_elim
    (λ (r : 0 < b).
    let x = at_least_one a v s n h q in
    let y = at_least_one b w t p l r in
    let k' : b * a < 2 ^ 63 * (t * s) = rw (mul_comm b a, mul_comm t s) k in
    both_same a b (v * s) (w * t) (h.same (factor_below a b s t y k)) (l.same (factor_below b a t s x k')))
    (λ (r : b ≤ 0). let z : b ≡ 0 = omega arith in none_right a b (v * s) (w * t) z (exact_none b (w * t) t p z l))
    (cases_lt 0 b))
    (λ (q : a ≤ 0). let z : a ≡ 0 = omega arith in none_left a b (v * s) (w * t) z (exact_none a (v * s) s n z h))
    (cases_lt 0 a)

pub lower-mul : (a b v w s t n p : ℕ) → IsLowerEnd a (v * s) s n → IsLowerEnd b (w * t) t p → IsLowerEnd (a * b) ((v * w) * (s * t)) (s * t) (n + p)
lower-mul a b v w s t n p h l =
    rw (sym (mul-mul-mul_comm v s w t))
    (record {
      below = mul-le-mul h.below l.below;
      close = close-mul a (v * s) b (w * t) n p h.close l.close;
      same = product_same a b v w s t n p h l;
    })

-- ---- a number that is cut to full digits

-- a part divides a whole one, unless it is twice as great
pub power_parts : (a b : ℕ) → 2 ^ a < 2 * 2 ^ b → (h : ℕ) × (2 ^ b ≡ h * 2 ^ a)
power_parts a b l =
    let e : 2 ^ suc b ≡ 2 ^ b * 2 = pow-suc 2 b in
    let k : a < suc b = pow-lt_reflects a (suc b) (omega arith) in
    let i : b ≡ (b - a) + a = omega arith in
    (2 ^ (b - a), ap (λ x. 2 ^ x) i ∙ pow-add 2 (b - a) a)

one_step : (low q g : ℕ) → 2 ^ 63 ≤ q → low < (q + 1) * g → low * 2 ^ 63 ≤ q * g * (2 ^ 63 + 1)
one_step low q g f h = let m : 2 ^ 63 * g ≤ q * g = mul-le-mul_right g f in omega arith

-- below 2 ^ 63 whole ones there is room for one part more
pub next_fits : (q h g : ℕ) → q * g < 2 ^ 63 * (h * g) → (q + 1) * g ≤ 2 ^ 63 * (h * g)
next_fits q h g l =
    let r : 2 ^ 63 * (h * g) ≡ (2 ^ 63 * h) * g = sym (mul_assoc (2 ^ 63) h g) in
    let k : q * g < (2 ^ 63 * h) * g = omega (arith, l, r) in
    let s : q < 2 ^ 63 * h = lt_of_mul-lt-mul_right g k in
    let m : (q + 1) * g ≤ (2 ^ 63 * h) * g = mul-le-mul_right g (omega arith) in
    omega (arith, m, r)

-- whole ones are counted in full by their parts
pub whole_parts : (q g v h low whole : ℕ) → 1 ≤ g → whole ≡ h * g → low ≡ v * whole → q * g ≤ low → low < (q + 1) * g → q * g ≡ low
whole_parts q g v h low whole p e i l k =
    let r : low ≡ (v * h) * g = i ∙ ap (λ x. v * x) e ∙ sym (mul_assoc v h g) in
    let a : q * g ≤ (v * h) * g = omega arith in
    let b : (v * h) * g < (q + 1) * g = omega arith in
    let c : q ≤ v * h = le_of_mul-le-mul_right a p in
    let d : v * h < q + 1 = lt_of_mul-lt-mul_right g b in
    let s : q ≡ v * h = omega arith in
    ap (λ x. x * g) s ∙ sym r

cut_same : (low v whole n q g : ℕ) → 1 ≤ g → (g < 2 * whole → (h : ℕ) × (whole ≡ h * g)) → 2 ^ 63 ≤ q → q * g ≤ low → low < (q + 1) * g → IsLowerEnd low (v * whole) whole n → q * g < 2 ^ 63 * whole → q * g ≡ v * whole
cut_same low v whole n q g p d f l k h s =
    let m : 2 ^ 63 * g ≤ q * g = mul-le-mul_right g f in
    let w = d (omega arith) in
    let x : (q + 1) * g ≤ 2 ^ 63 * (w.0 * g) = next_fits q w.0 g (rw w.1 at s) in
    let y : low < 2 ^ 63 * whole = lt_of_lt_of_le k (rw (w.1) x) in
    let e = h.same y in
    whole_parts q g v w.0 low whole p w.1 e l k ∙ e

pub lower_cut : (low v whole n q g : ℕ) → 1 ≤ g → (g < 2 * whole → (h : ℕ) × (whole ≡ h * g)) → 2 ^ 63 ≤ q → q * g ≤ low → low < (q + 1) * g → IsLowerEnd low (v * whole) whole n → IsLowerEnd (q * g) (v * whole) whole (n + 1)
lower_cut low v whole n q g p d f l k h =
    let s : n + 1 ≡ 1 + n = omega arith in
    record {
      below = le_trans l h.below;
      close = rw s (close_trans (q * g) low (v * whole) 1 n (close_step (q * g) low (one_step low q g f k)) h.close);
      same = cut_same low v whole n q g p d f l k h;
    }

-- ---- other parts of a whole one

pub lower_unscaled : (low exact whole k n : ℕ) → 1 ≤ k → IsLowerEnd (low * k) (exact * k) (whole * k) n → IsLowerEnd low exact whole n
lower_unscaled low exact whole k n p h = record {
  below = le_of_mul-le-mul_right h.below p;
  close = close_unscaled low exact k n p h.close;
  same = λ l. same_out low exact k p (h.same (less low whole k p l));
}
  where
    less : (a b c : ℕ) → 1 ≤ c → a < 2 ^ 63 * b → a * c < 2 ^ 63 * (b * c)
    less a b c q l =
        let m : a * c < (2 ^ 63 * b) * c = mul-lt-mul_of_pos_right l q in
        let r : (2 ^ 63 * b) * c ≡ 2 ^ 63 * (b * c) = mul_assoc (2 ^ 63) b c in
        omega (arith, m, r)

    same_out : (a b c : ℕ) → 1 ≤ c → a * c ≡ b * c → a ≡ b
    same_out a b c q e =
        let l : a * c ≤ b * c = omega arith in
        let m : b * c ≤ a * c = omega arith in
        let x : a ≤ b = le_of_mul-le-mul_right l q in
        let y : b ≤ a = le_of_mul-le-mul_right m q in
        omega arith

pub lower_finer : (low exact whole k n : ℕ) → 1 ≤ k → IsLowerEnd low exact whole n → IsLowerEnd (low * k) (exact * k) (whole * k) n
lower_finer low exact whole k n p h = record {
  below = mul-le-mul_right k h.below;
  close = close_scaled low exact k n h.close;
  same = λ l. ap (λ x. x * k) (h.same (less low whole k l));
}
  where
    less : (a b c : ℕ) → a * c < 2 ^ 63 * (b * c) → a < 2 ^ 63 * b
    less a b c l =
        let r : 2 ^ 63 * (b * c) ≡ (2 ^ 63 * b) * c = sym (mul_assoc (2 ^ 63) b c) in
        let m : a * c < (2 ^ 63 * b) * c = omega (arith, l, r) in
        lt_of_mul-lt-mul_right c m

-- the same multiple of both
pub lower_scaled : (low exact whole k n : ℕ) → 1 ≤ k → IsLowerEnd low exact whole n → IsLowerEnd (low * k) (exact * k) whole n
lower_scaled low exact whole k n p h = record {
  below = mul-le-mul_right k h.below;
  close = close_scaled low exact k n h.close;
  same = λ l. let m : low * 1 ≤ low * k = mul-le-mul_left low p in ap (λ x. x * k) (h.same (omega arith));
}
