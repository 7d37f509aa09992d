-- The two ends of what a cell stands for.
use Rattle.std.proofs.Common.{◌≡◌, ℕ, zero, suc, ◌+◌, ◌-◌, ◌*◌, ◌/◌, ◌^◌, ◌<◌, ◌≤◌, sym, ap, ◌∙◌, arith, ⊎_elim, le_refl, lt_of_le_of_lt}
use Rattle.std.proofs.lemmas.Bool.{cases_lt}
use Rattle.std.proofs.lemmas.Nat.{pow-add, pow_pos, shl-shr, shl_below}
use Rattle.std.proofs.Math.Nat.{mul-le-mul_left, mul-le-mul_right, mul-lt-mul_of_pos_right, mul_assoc, mul_comm, le_of_mul-le-mul_right, pow-suc, div-le_self}
use Rattle.mk_scaled.specs.Near.{IsNear, near_same, near_step, near_trans, near_between, near-mul}
use Rattle.mk_scaled.specs.Range.{IsInRange, two_to, two_to-mono, two_to-suc, two_to-small, whole_below, pow_le, pow-lt_reflects}
use Rattle.mk_scaled.specs.Rounding.{IsRepresentable, IsLeastAbove}
use Rattle.mk_enclose.specs.Enclosure.{widest_grade}
use Rattle.mk_cell.specs.Cell.{bias, bias-is, StandsAt}
use Rattle.mk_cell.specs.inner.Close.{close_unscaled, close_width}

-- ---- the upper end above a lower one

-- w * 2 ^ x for a w of 64 digits that may carry
record IsUp (w x up : ℕ) : Type 0 where
  representable : IsRepresentable up
  above : w * 2 ^ x ≤ up
  within : up ≤ (w + 1) * 2 ^ x

up_of : (w x : ℕ) → 1 ≤ w → w < 2 ^ 64 → IsUp w x (w * 2 ^ x)
up_of w x p h = record {
  representable = record { mantissa = w; exponent = x; positive = p; below = h; written = same (w * 2 ^ x) };
  above = le_refl _;
  within = mul-le-mul_right (2 ^ x) (omega arith);
}
  where
    same : (a : ℕ) → a ≡ a
    same a = omega arith

up_carried : (w x : ℕ) → 2 ^ 64 ≤ w → w < 2 ^ 64 + 2 ^ 62 → IsUp w x ((w + 1) / 2 * 2 ^ suc x)
up_carried w x h l =
    let e : 2 ^ suc x ≡ 2 ^ x * 2 = pow-suc 2 x in
    let a : w ≤ (w + 1) / 2 * 2 = omega arith in
    let b : (w + 1) / 2 * 2 ≤ w + 1 = omega arith in
    let i : (w + 1) / 2 * 2 ^ suc x ≡ ((w + 1) / 2 * 2) * 2 ^ x = ap (λ y. (w + 1) / 2 * y) (e ∙ mul_comm (2 ^ x) 2) ∙ sym (mul_assoc ((w + 1) / 2) 2 (2 ^ x)) in
    record {
      representable = record { mantissa = (w + 1) / 2; exponent = suc x; positive = omega arith; below = omega arith; written = same ((w + 1) / 2 * 2 ^ suc x) };
      above = rw i (mul-le-mul_right (2 ^ x) a);
      within = rw i (mul-le-mul_right (2 ^ x) b);
    }
  where
    same : (a : ℕ) → a ≡ a
    same a = omega arith

some_up : (w x : ℕ) → 1 ≤ w → w < 2 ^ 64 + 2 ^ 62 → (up : ℕ) × IsUp w x up
some_up w x p h =
    ⊎_elim (λ (l : w < 2 ^ 64). (w * 2 ^ x, up_of w x p l)) (λ (l : 2 ^ 64 ≤ w). ((w + 1) / 2 * 2 ^ suc x, up_carried w x l h)) (cases_lt w (2 ^ 64))

pub up_within : (d p x high : ℕ) → 1 ≤ d → d < 2 ^ 64 → p ≤ 2 ^ 23 → IsLeastAbove high (d * 2 ^ x + p * 2 ^ x) → high ≤ (d + p + 1) * 2 ^ x
up_within d p x high q h l a =
    let i : d * 2 ^ x + p * 2 ^ x ≡ (d + p) * 2 ^ x = omega arith in
    let u = some_up (d + p) x (omega arith) (omega arith) in
    let v = u.1.above in
    let w = u.1.within in
    let k = a.least u.0 u.1.representable (omega arith) in
    omega arith

-- in range
pub end_in_range : (d x : ℕ) → d < 2 ^ 64 → x ≤ 2 ^ 34 → d * 2 ^ x < two_to (64 + x)
end_in_range d x h l = whole_below (d * 2 ^ x) (64 + x) (64 + x) (shl_below d 64 x h) (omega arith)

pub ends_in_range : (a b x : ℕ) → x ≤ 2 ^ 34 → a < two_to (64 + x) → b < two_to (64 + x) → IsInRange (a + b)
ends_in_range a b x l h k =
    let s = two_to-suc (64 + x) in
    let m = two_to-mono (suc (64 + x)) (2 ^ 50) (omega arith) in
    omega arith

pub one_in_range : (a x : ℕ) → x ≤ 2 ^ 34 → a < two_to (64 + x) → IsInRange a
one_in_range a x l h = let m = two_to-mono (64 + x) (2 ^ 50) (omega arith) in omega arith

-- ---- the grade

-- eight places beside 2 ^ 63 are one of the grade
near_places : (m g : ℕ) → 2 ^ 63 ≤ m → IsNear m (m + 8 * g) g
near_places m zero h = let i : m + 8 * 0 ≡ m = omega arith in rw i (near_same m)
near_places m (suc g) h =
    let s : suc g ≡ g + 1 = omega arith in
    rw s (near_trans m (m + 8 * g) (m + 8 * (g + 1)) g 1 (near_places m g h) (near_step (m + 8 * g) (m + 8 * (g + 1)) (omega arith)))

pub near_ends : (m g x low high : ℕ) → 2 ^ 63 ≤ m → 1 ≤ g → low ≡ m * 2 ^ x → high ≤ (m + 6 * g + 2) * 2 ^ x → IsNear low high g
near_ends m g x low high f p i h =
    let n = near-mul m (m + 8 * g) (2 ^ x) (2 ^ x) g 0 (near_places m g f) (near_same (2 ^ x)) in
    let s : g + 0 ≡ g = omega arith in
    let l : (m + 6 * g + 2) * 2 ^ x ≤ (m + 8 * g) * 2 ^ x = mul-le-mul_right (2 ^ x) (omega arith) in
    near_between (m * 2 ^ x) low high ((m + 8 * g) * 2 ^ x) g (omega arith) (omega arith) (rw s at n)

-- ---- what is reached

places_enough : (m n c : ℕ) → 2 ^ 63 ≡ c + n → m < 2 ^ 64 → n ≤ 3145728 → 2 ^ 62 ≤ c → m * 2 ^ 63 ≤ (m + 2 * n + 1) * c
places_enough m n c e h l k =
    let a : m * n ≤ 2 ^ 64 * n = mul-le-mul_right n (omega arith) in
    let b : n * n ≤ 3145728 * n = mul-le-mul_right n l in
    let d : 2 ^ 64 * n ≡ (2 * (c + n)) * n = ap (λ y. y * n) (let i : 2 ^ 64 ≡ 2 * (c + n) = omega arith in i) in
    let f : m * 2 ^ 63 ≡ m * (c + n) = ap (λ y. m * y) e in
    rw f (omega arith)

reached_at : (v m n p c : ℕ) → 2 ^ 63 ≡ c + n → m < 2 ^ 64 → n ≤ 3145728 → 2 ^ 62 ≤ c → v * c ≤ (m * p) * 2 ^ 63 → v ≤ (m + 2 * n + 1) * p
reached_at v m n p c e h l k s =
    let a : (m * 2 ^ 63) * p ≤ ((m + 2 * n + 1) * c) * p = mul-le-mul_right p (places_enough m n c e h l k) in
    let q : 1 ≤ c = omega arith in
    let b : v * c ≤ ((m + 2 * n + 1) * p) * c = omega arith in
    le_of_mul-le-mul_right b q

in_wholes : (m y x b : ℕ) → y ≡ x + b → m * 2 ^ y ≡ (m * 2 ^ x) * 2 ^ b
in_wholes m y x b e = ap (λ k. m * 2 ^ k) e ∙ ap (λ k. m * k) (pow-add 2 x b) ∙ sym (mul_assoc m (2 ^ x) (2 ^ b))

pub reached : (m e shift v g x : ℕ) → m < 2 ^ 64 → g ≤ widest_grade → e + shift ≡ x + 1342177280 → StandsAt shift m e v (3 * g) → v ≤ (m + 6 * g + 1) * 2 ^ x
reached m e shift v g x h l i s =
    let j : e + shift ≡ x + bias = let b = bias-is in omega arith in
    let low = s.lower in
    let c = close_unscaled (m * 2 ^ x) v (2 ^ bias) (3 * g) (pow_pos bias) (rw (in_wholes m (e + shift) x bias j) at low.close) in
    let w = close_width (m * 2 ^ x) v (3 * g) c in
    let k : 2 ^ 63 ≡ (2 ^ 63 - 3 * g) + 3 * g = omega arith in
    let r = reached_at v m (3 * g) (2 ^ x) (2 ^ 63 - 3 * g) k h (omega arith) (omega arith) w in
    let t : m + 2 * (3 * g) + 1 ≡ m + 6 * g + 1 = omega arith in
    rw t at r

-- the lower end is not above the number
pub not_above : (m e shift v n x : ℕ) → e + shift ≡ x + 1342177280 → StandsAt shift m e v n → m * 2 ^ x ≤ v
not_above m e shift v n x i s =
    let j : e + shift ≡ x + bias = let b = bias-is in omega arith in
    let low = s.lower in
    le_of_mul-le-mul_right (rw (in_wholes m (e + shift) x bias j) at low.below) (pow_pos bias)

pub at_least_half : (m x : ℕ) → 2 ^ 63 ≤ m → 2 ^ 63 ≤ m * 2 ^ x
at_least_half m x h = let k : m * 1 ≤ m * 2 ^ x = mul-le-mul_left m (pow_pos x) in omega arith

pub bounded_end : (m x v g high : ℕ) → 2 ^ 63 ≤ m → g ≤ widest_grade → m * 2 ^ x ≤ v → v < two_to (64 * (3 * g + 1)) → high ≤ (m + 6 * g + 2) * 2 ^ x → high ≤ two_to (192 * (g + 1))
bounded_end m x v g high f l h k u =
    let a : (m + 6 * g + 2) * 2 ^ x ≤ (m + m) * 2 ^ x = mul-le-mul_right (2 ^ x) (omega arith) in
    let s = two_to-suc (64 * (3 * g + 1)) in
    let t = two_to-mono (suc (64 * (3 * g + 1))) (192 * (g + 1)) (omega arith) in
    omega arith

-- ---- numbers below 2 ^ 63

-- digits that lie below 2 ^ 63 whole ones are the number
pub whole_digits : (m e shift v n r : ℕ) → m < 2 ^ 64 → e + shift + r ≡ 1342177280 → 0 < r → StandsAt shift m e v n → m ≡ v * 2 ^ r
whole_digits m e shift v n r h i p s =
    let j : bias ≡ r + (e + shift) = let b = bias-is in omega arith in
    let w : 2 ^ bias ≡ 2 ^ r * 2 ^ (e + shift) = ap (λ k. 2 ^ k) j ∙ pow-add 2 r (e + shift) in
    let low = s.lower in
    let q = pow_pos (e + shift) in
    let o : 2 ^ 1 ≤ 2 ^ r = pow_at_least r p in
    let k : m < 2 ^ 63 * 2 ^ r = omega arith in
    let t : m * 2 ^ (e + shift) < (2 ^ 63 * 2 ^ r) * 2 ^ (e + shift) = mul-lt-mul_of_pos_right k q in
    let u : (2 ^ 63 * 2 ^ r) * 2 ^ (e + shift) ≡ 2 ^ 63 * 2 ^ bias = mul_assoc (2 ^ 63) (2 ^ r) (2 ^ (e + shift)) ∙ ap (λ y. 2 ^ 63 * y) (sym w) in
    let x : m * 2 ^ (e + shift) ≡ v * 2 ^ bias = low.same (omega arith) in
    let y : v * 2 ^ bias ≡ (v * 2 ^ r) * 2 ^ (e + shift) = ap (λ z. v * z) w ∙ sym (mul_assoc v (2 ^ r) (2 ^ (e + shift))) in
    cancel m (v * 2 ^ r) (2 ^ (e + shift)) q (x ∙ y)
  where
    pow_at_least : (a : ℕ) → 0 < a → 2 ^ 1 ≤ 2 ^ a
    pow_at_least a b = pow_le 1 a b

    cancel : (a b c : ℕ) → 1 ≤ c → a * c ≡ b * c → a ≡ b
    cancel a b c z f =
        let g : a ≤ b = let y : a * c ≤ b * c = omega arith in le_of_mul-le-mul_right y z in
        let g' : b ≤ a = let y : b * c ≤ a * c = omega arith in le_of_mul-le-mul_right y z in
        omega arith

-- so they hold it in full
pub number_is : (m v r : ℕ) → m ≡ v * 2 ^ r → m / 2 ^ r ≡ v
number_is m v r h = ap (λ y. y / 2 ^ r) h ∙ shl-shr v r

pub number_there : (m v r : ℕ) → m ≡ v * 2 ^ r → 0 < m → 0 < v
number_there m zero r h p = absurd (omega arith)
number_there m (suc v) r h p = omega arith

pub few_places : (m v r : ℕ) → m ≡ v * 2 ^ r → m < 2 ^ 64 → 0 < m → r < 64
few_places m v r h l p =
    let q = number_there m v r h p in
    let k : 1 * 2 ^ r ≤ v * 2 ^ r = mul-le-mul_right (2 ^ r) q in
    pow-lt_reflects r 64 (let w : 2 ^ r < 2 ^ 64 = omega arith in w)

pub bounded_whole : (v g : ℕ) → v < 2 ^ 64 → v ≤ two_to (192 * (g + 1))
bounded_whole v g h = let k = two_to-small (192 * (g + 1)) 64 (omega arith) in omega arith

pub number_is_below : (m r : ℕ) → m < 2 ^ 64 → m / 2 ^ r < 2 ^ 64
number_is_below m r h = lt_of_le_of_lt (div-le_self m (2 ^ r)) h
