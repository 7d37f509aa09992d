-- What the two parts of a fraction bound.
use Rattle.std.proofs.Common.{◌≡◌, ℕ, ◌+◌, ◌*◌, ◌/◌, ◌^◌, ◌<◌, ◌≤◌, min, ⊎_elim, arith, le_trans}
use Rattle.std.specs.Int.{div_ceil}
use Rattle.std.proofs.lemmas.Bool.{cases_lt}
use Rattle.std.proofs.lemmas.Grind.{div_ceil_times}
use Rattle.std.proofs.Math.Nat.{mul-le-mul_left, mul-le-mul_right, div-mul-le_self, lt-div-mul-add, lt_of_mul-lt-mul_right, div-le_of_le-mul, mul_comm}

pub part_below : (n d u low v w : ℕ) → low ≡ n * u / d → n ≤ v → w ≤ d → low * w ≤ v * u
part_below n d u low v w e h l =
    let s : n * u / d * d ≤ n * u = div-mul-le_self (n * u) d in
    let t : n * u ≤ v * u = mul-le-mul_right u h in
    let r : low * w ≤ low * d = mul-le-mul_left low l in
    let q : n * u / d * d ≤ v * u = le_trans s t in
    le_trans r (rw e q)

above_ceiling : (n d u c v w : ℕ) → n * u ≤ c * d → v ≤ n → d ≤ w → v * u ≤ c * w
above_ceiling n d u c v w h l k =
    let s : v * u ≤ n * u = mul-le-mul_right u l in
    let t : c * d ≤ c * w = mul-le-mul_left c k in
    omega arith

pub part_above : (n d u high v w : ℕ) → 1 ≤ d → high ≡ min u (div_ceil (n * u) d) → v ≤ n → d ≤ w → v ≤ w → v * u ≤ high * w
part_above n d u high v w p e h l k =
    let c = div_ceil_times (n * u) d p in
    let s : v * u ≤ div_ceil (n * u) d * w = above_ceiling n d u (div_ceil (n * u) d) v w c.0 h l in
    let t : v * u ≤ u * w = rw (mul_comm u w) (mul-le-mul_right u k) in
    ⊎_elim
    (λ i. let j : high ≡ u = omega arith in rw j t)
    (λ i. let j : high ≡ div_ceil (n * u) d = omega arith in rw j s)
    (cases_lt u (div_ceil (n * u) d))

-- The ends are within one part in 2 ^ 40, so a fraction of at most 2 ^ 34 units is less than one unit wide.
one_wider : (n m d e u low : ℕ) → m * 2 ^ 40 ≤ n * (2 ^ 40 + 1) → e * 2 ^ 40 ≤ d * (2 ^ 40 + 1) → n * u ≤ (low + 1) * e → low + 1 ≤ 2 ^ 34 + 1 → m * u ≤ (low + 2) * d
one_wider n m d e u low h l k s =
    let a : (m * 2 ^ 40) * u ≤ (n * (2 ^ 40 + 1)) * u = mul-le-mul_right u h in
    let b : (low + 1) * (e * 2 ^ 40) ≤ (low + 1) * (d * (2 ^ 40 + 1)) = mul-le-mul_left (low + 1) l in
    let c : (low + 1) * d ≤ (2 ^ 34 + 1) * d = mul-le-mul_right d s in
    omega arith

low_at_most : (n e u : ℕ) → n ≤ e → n * u / e ≤ u
low_at_most n e u h =
    let s : n * u ≤ e * u = mul-le-mul_right u h in div-le_of_le-mul e s

pub parts_close : (n m d e u : ℕ) → 1 ≤ d → 1 ≤ e → n ≤ e → u ≤ 2 ^ 34 → m * 2 ^ 40 ≤ n * (2 ^ 40 + 1) → e * 2 ^ 40 ≤ d * (2 ^ 40 + 1) → div_ceil (m * u) d ≤ n * u / e + 2
parts_close n m d e u p q h b l k =
    let s : n * u < n * u / e * e + e = lt-div-mul-add q in
    let t = low_at_most n e u h in
    let w : m * u ≤ (n * u / e + 2) * d = one_wider n m d e u (n * u / e) l k (omega arith) (omega arith) in
    let c = div_ceil_times (m * u) d p in
    let r : div_ceil (m * u) d * d < (n * u / e + 3) * d = omega (arith, c.1) in
    let i : div_ceil (m * u) d < n * u / e + 3 = lt_of_mul-lt-mul_right d r in
    omega arith
