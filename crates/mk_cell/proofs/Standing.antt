-- What cells stand for.
use Rattle.std.proofs.Common.{◌≡◌, ℕ, ◌+◌, ◌*◌, ◌^◌, ◌<◌, ◌≤◌, sym, ap, ◌∙◌, ⊎_elim, arith}
use Rattle.std.proofs.lemmas.Bool.{cases_lt}
use Rattle.std.proofs.lemmas.Nat.{pow-add, pow_pos}
use Rattle.std.proofs.Math.Nat.{mul-le-mul_left, mul-le-mul_right, mul-lt-mul_of_pos_right, mul_assoc, mul-mul-mul_comm}
use Rattle.mk_scaled.specs.Range.{two_to, two_to_pos, whole_below, mul_below}
use Rattle.mk_cell.specs.Cell.{bias, IsForm, IsLowerEnd, IsCut, IsRounded, StandsAt}
use Rattle.mk_cell.specs.inner.LowerEnd.{lower_same, lower_more, lower_none, lower-mul, lower_cut, lower_unscaled, power_parts}

pub absent_form : IsForm 0 0
absent_form = record { absent = λ h. omega arith; full = λ h. absurd (omega arith); fits = omega arith }

absent_lower : (shift n : ℕ) → IsLowerEnd (0 * 2 ^ (0 + shift)) (0 * 2 ^ bias) (2 ^ bias) n
absent_lower shift n =
    let i : 0 * 2 ^ (0 + shift) ≡ 0 = omega arith in
    let j : 0 * 2 ^ bias ≡ 0 = omega arith in
    rw (i, j) (lower_more 0 0 (2 ^ bias) 0 n (omega arith) (lower_same 0 (2 ^ bias)))

pub absent_stands : (shift v n : ℕ) → v ≡ 0 → StandsAt shift 0 0 v n
absent_stands shift v n z =
    rw z (record { form = absent_form; lower = absent_lower shift n; size = two_to_pos (64 * (n + 1)) })

pub exact_stands : (shift q e v : ℕ) → IsForm q e → q * 2 ^ (e + shift) ≡ v * 2 ^ bias → v < 2 ^ 64 → StandsAt shift q e v 0
exact_stands shift q e v f h l =
    record {
      form = f;
      lower = rw h (lower_same (v * 2 ^ bias) (2 ^ bias));
      size = whole_below v 64 (64 * (0 + 1)) l (omega arith);
    }

-- where a cell has no digits it stands for 0
pub no_digits : (shift q e v n : ℕ) → StandsAt shift q e v n → q ≡ 0 → v ≡ 0
no_digits shift q e v n h z =
    let i : q * 2 ^ (e + shift) ≡ 0 = rw z (omega arith) in
    lower_none v (2 ^ bias) n (pow_pos bias) (rw i at h.lower)

-- ---- a lower end that is cut to a cell

at_shift : (q x b k : ℕ) → (q * 2 ^ (x + b)) * 2 ^ k ≡ q * 2 ^ (x + b + k)
at_shift q x b k = mul_assoc q (2 ^ (x + b)) (2 ^ k) ∙ ap (λ y. q * y) (sym (pow-add 2 (x + b) k))

-- as a lower end of v in units of 2 ^ bias, from one in the units of a product
in_product_units : (q x k b v n : ℕ) → IsLowerEnd (q * 2 ^ (x + b + k)) (v * (2 ^ b * 2 ^ b)) (2 ^ b * 2 ^ b) n → IsLowerEnd (q * 2 ^ (x + k)) (v * 2 ^ b) (2 ^ b) n
in_product_units q x k b v n h =
    let i : x + b + k ≡ (x + k) + b = omega arith in
    let r : q * 2 ^ (x + b + k) ≡ (q * 2 ^ (x + k)) * 2 ^ b = ap (λ y. q * 2 ^ y) i ∙ ap (λ y. q * y) (pow-add 2 (x + k) b) ∙ sym (mul_assoc q (2 ^ (x + k)) (2 ^ b)) in
    let s : v * (2 ^ b * 2 ^ b) ≡ (v * 2 ^ b) * 2 ^ b = sym (mul_assoc v (2 ^ b) (2 ^ b)) in
    lower_unscaled (q * 2 ^ (x + k)) (v * 2 ^ b) (2 ^ b) (2 ^ b) n (pow_pos b) (rw (r, s) at h)

pub cut_product : (q x k low number v n : ℕ) → IsForm q x → IsCut q (x + bias) number → low ≡ number * 2 ^ k → IsLowerEnd low (v * (2 ^ bias * 2 ^ bias)) (2 ^ bias * 2 ^ bias) n → v < two_to (64 * (n + 2)) → StandsAt k q x v (n + 1)
cut_product q x k low number v n f c e h s =
    let l : (q * 2 ^ (x + bias)) * 2 ^ k ≤ number * 2 ^ k = mul-le-mul_right (2 ^ k) c.lower in
    let u : number * 2 ^ k < ((q + 1) * 2 ^ (x + bias)) * 2 ^ k = mul-lt-mul_of_pos_right c.upper (pow_pos k) in
    let l' : q * 2 ^ (x + bias + k) ≤ low = rw (e, ← at_shift q x bias k) l in
    let u' : low < (q + 1) * 2 ^ (x + bias + k) = rw (e, ← at_shift (q + 1) x bias k) u in
    let w : 2 ^ (bias + bias) ≡ 2 ^ bias * 2 ^ bias = pow-add 2 bias bias in
    let cut = lower_cut low v (2 ^ bias * 2 ^ bias) n q (2 ^ (x + bias + k)) (pow_pos (x + bias + k))
    (rw (← w) (power_parts (x + bias + k) (bias + bias))) c.full l' u' h in
    let i : n + 1 + 1 ≡ n + 2 = omega arith in
    record { form = f; lower = in_product_units q x k bias v (n + 1) cut; size = rw i s }

-- ---- the product of two cells

pub product_is : (m n e d j k : ℕ) → (m * 2 ^ (e + j)) * (n * 2 ^ (d + k)) ≡ ((m * n) * 2 ^ (e + d)) * 2 ^ (j + k)
product_is m n e d j k =
    let i : (e + j) + (d + k) ≡ (e + d) + (j + k) = omega arith in
    mul-mul-mul_comm m (2 ^ (e + j)) n (2 ^ (d + k))
    ∙ ap (λ y. (m * n) * y) (sym (pow-add 2 (e + j) (d + k)) ∙ ap (λ y. 2 ^ y) i ∙ pow-add 2 (e + d) (j + k))
    ∙ sym (mul_assoc (m * n) (2 ^ (e + d)) (2 ^ (j + k)))

pub size_of_product : (v w n p : ℕ) → v < two_to (64 * (n + 1)) → w < two_to (64 * (p + 1)) → v * w < two_to (64 * (n + p + 2))
size_of_product v w n p h l =
    let i : 64 * (n + p + 2) ≡ 64 * (n + 1) + 64 * (p + 1) = omega arith in
    rw i (mul_below v w (64 * (n + 1)) (64 * (p + 1)) h l)

product_none : (m n : ℕ) → m * n ≤ 0 → 0 < m → n ≡ 0
product_none m n h p = let l : 1 * n ≤ m * n = mul-le-mul_right n p in omega arith

pub times_none : (j k m e n d v w s t : ℕ) → StandsAt j m e v s → StandsAt k n d w t → m * n ≤ 0 → v * w ≡ 0
times_none j k m e n d v w s t a b h =
    ⊎_elim
    (λ (p : 0 < m). let z : w ≡ 0 = no_digits k n d w t b (product_none m n h p) in rw z (omega arith))
    (λ (p : m ≤ 0). let q : m ≡ 0 = omega arith in let z : v ≡ 0 = no_digits j m e v s a q in rw z (omega arith))
    (cases_lt 0 m)

zero_power : (p a : ℕ) → p ≡ 0 → p * 2 ^ a ≡ 0
zero_power p a z = rw z (omega arith)

pub nothing_left : (q x k v n : ℕ) → IsForm q x → q ≡ 0 → v ≡ 0 → StandsAt k q x v n
nothing_left q x k v n f z h = let y = f.absent z in rw (y, z) (absent_stands k v n h)

pub times_stands : (j k m e n d q x v w s t : ℕ) → StandsAt j m e v s → StandsAt k n d w t → IsRounded q x ((m * n) * 2 ^ (e + d)) → StandsAt (j + k) q x (v * w) (s + t + 1)
times_stands j k m e n d q x v w s t a b r =
    ⊎_elim
    (λ (p : 0 < (m * n) * 2 ^ (e + d)).
    cut_product q x (j + k) ((m * 2 ^ (e + j)) * (n * 2 ^ (d + k))) ((m * n) * 2 ^ (e + d)) (v * w) (s + t) r.form (r.cut p)
    (product_is m n e d j k)
    (lower-mul (m * 2 ^ (e + j)) (n * 2 ^ (d + k)) v w (2 ^ bias) (2 ^ bias) s t a.lower b.lower)
    (size_of_product v w s t a.size b.size))
    (λ (p : (m * n) * 2 ^ (e + d) ≤ 0).
    let l : (m * n) * 1 ≤ (m * n) * 2 ^ (e + d) = mul-le-mul_of (m * n) (e + d) in
    nothing_left q x (j + k) (v * w) (s + t + 1) r.form (r.none (omega arith)) (times_none j k m e n d v w s t a b (omega arith)))
    (cases_lt 0 ((m * n) * 2 ^ (e + d)))
  where
    mul-le-mul_of : (p a : ℕ) → p * 1 ≤ p * 2 ^ a
    mul-le-mul_of p a = mul-le-mul_left p (pow_pos a)
