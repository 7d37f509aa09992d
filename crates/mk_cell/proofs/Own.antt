-- A cell that stands for its own number under no shift, and for a multiple of it under the table's.
use Rattle.std.proofs.Common.{◌≡◌, ℕ, suc, ◌+◌, ◌-◌, ◌*◌, ◌^◌, ◌<◌, ◌≤◌, sym, ap, ◌∙◌, arith, le_trans, lt_of_le_of_lt}
use Rattle.std.proofs.lemmas.Nat.{pow-add, pow_pos}
use Rattle.std.proofs.Math.Nat.{mul-le-mul_left, mul-le-mul_right, mul-lt-mul_of_pos_right, mul_assoc, mul_right_comm, le_of_mul-le-mul_right, lt_of_mul-lt-mul_right}
use Rattle.mk_scaled.specs.Near.{IsNear, near_same, near-mul, near_width}
use Rattle.mk_scaled.specs.Range.{IsInRange, two_to, two_to-mono, two_to-suc, two_to-small, two_to-lt, mul_at_most}
use Rattle.mk_enclose.specs.Enclosure.{widest_grade}
use Rattle.mk_cell.specs.Cell.{bias, StandsAt}
use Rattle.mk_cell.specs.inner.Close.{close_width}

raised : (q e k : ℕ) → q * 2 ^ (e + k) ≡ (q * 2 ^ (e + 0)) * 2 ^ k
raised q e k =
    let i : e + k ≡ (e + 0) + k = omega arith in
    ap (λ y. q * 2 ^ y) i ∙ ap (λ y. q * y) (pow-add 2 (e + 0) k) ∙ sym (mul_assoc q (2 ^ (e + 0)) (2 ^ k))

-- few steps lose less than half
twice_at_least : (low high n : ℕ) → n ≤ 2 ^ 62 → high * (2 ^ 63 - n) ≤ low * 2 ^ 63 → high ≤ low + low
twice_at_least low high n h l =
    let m : high * 2 ^ 62 ≤ high * (2 ^ 63 - n) = mul-le-mul_left high (omega arith) in
    omega arith

-- what the multiple comes to beside what the cell stands for under the shift
pub own_multiple : (m e shift v w g : ℕ) → g ≤ widest_grade → StandsAt shift m e v (3 * g) → StandsAt 0 m e w (3 * g) → w * 2 ^ shift ≤ v + v
own_multiple m e shift v w g l s o =
    let c = close_width (m * 2 ^ (e + 0)) (w * 2 ^ bias) (3 * g) o.lower.close in
    let h = twice_at_least (m * 2 ^ (e + 0)) (w * 2 ^ bias) (3 * g) (omega arith) c in
    let k : (w * 2 ^ bias) * 2 ^ shift ≤ (m * 2 ^ (e + 0) + m * 2 ^ (e + 0)) * 2 ^ shift = mul-le-mul_right (2 ^ shift) h in
    let i : (w * 2 ^ bias) * 2 ^ shift ≡ (w * 2 ^ shift) * 2 ^ bias = mul_right_comm w (2 ^ bias) (2 ^ shift) in
    let r = raised m e shift in
    let b = s.lower.below in
    let t : (w * 2 ^ shift) * 2 ^ bias ≤ (v + v) * 2 ^ bias = omega arith in
    le_of_mul-le-mul_right t (pow_pos bias)

near_twice : (low high g : ℕ) → g ≤ widest_grade → IsNear low high g → high ≤ low + low
near_twice low high g l h =
    let n = near_width low high g h in
    let m : high * 2 ^ 59 ≤ high * (2 ^ 60 - g) = mul-le-mul_left high (omega arith) in
    omega arith

-- the upper end, from a lower one that is not above the cell's own number
pub own_bounded : (m e shift v w g low high : ℕ) → g ≤ widest_grade → StandsAt shift m e v (3 * g) → StandsAt 0 m e w (3 * g) → low ≤ w → IsNear low high g
    → high * 2 ^ shift ≤ two_to (192 * (g + 1))
own_bounded m e shift v w g low high l s o below near =
    let x = own_multiple m e shift v w g l s o in
    let y : high ≤ w + w = let n = near_twice low high g l near in omega arith in
    let z : high * 2 ^ shift ≤ (w + w) * 2 ^ shift = mul-le-mul_right (2 ^ shift) y in
    let b = s.size in
    let p = two_to-suc (64 * (3 * g + 1)) in
    let q = two_to-suc (suc (64 * (3 * g + 1))) in
    let t = two_to-mono (suc (suc (64 * (3 * g + 1)))) (192 * (g + 1)) (omega arith) in
    omega arith

-- a number below 2 ^ 63 under the shift is one under no shift
pub own_below : (m e shift v w n : ℕ) → StandsAt shift m e v n → StandsAt 0 m e w n → v < 2 ^ 63 → w < 2 ^ 63
own_below m e shift v w n s o h =
    let b = s.lower.below in
    let r = raised m e shift in
    let p : (m * 2 ^ (e + 0)) * 1 ≤ (m * 2 ^ (e + 0)) * 2 ^ shift = mul-le-mul_left (m * 2 ^ (e + 0)) (pow_pos shift) in
    let u : v * 2 ^ bias < 2 ^ 63 * 2 ^ bias = mul-lt-mul_of_pos_right h (pow_pos bias) in
    let i : m * 2 ^ (e + 0) ≡ w * 2 ^ bias = o.lower.same (omega arith) in
    let k : w * 2 ^ bias < 2 ^ 63 * 2 ^ bias = omega arith in
    lt_of_mul-lt-mul_right (2 ^ bias) k

pub multiple_in_range : (n shift : ℕ) → shift < 2 ^ 32 → n ≤ two_to (2 ^ 49) → IsInRange (n * 2 ^ shift)
multiple_in_range n shift h l =
    let a = mul_at_most n (2 ^ shift) (2 ^ 49) shift l (two_to-small shift shift (omega arith)) in
    let b = two_to-lt (2 ^ 49 + shift) (2 ^ 50) (omega arith) in
    lt_of_le_of_lt a b

pub grade_in_range : (g n : ℕ) → g ≤ widest_grade → n ≤ two_to (192 * (g + 1)) → n ≤ two_to (2 ^ 49)
grade_in_range g n h l = le_trans l (two_to-mono (192 * (g + 1)) (2 ^ 49) (omega arith))

pub near_multiple : (low high g shift : ℕ) → IsNear low high g → IsNear (low * 2 ^ shift) (high * 2 ^ shift) g
near_multiple low high g shift h =
    let n = near-mul low high (2 ^ shift) (2 ^ shift) g 0 h (near_same (2 ^ shift)) in
    let s : g + 0 ≡ g = omega arith in
    rw s at n
