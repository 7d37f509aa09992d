-- A logarithm that was rounded down decides whether a product reaches a power of two.
use Rattle.std.proofs.Common.{◌≡◌, ℕ, ◌+◌, ◌*◌, ◌^◌, ◌<◌, ◌≤◌, arith, le_refl, le_trans, lt_of_le_of_lt}
use Rattle.std.proofs.lemmas.Nat.{pow-add, pow_pos}
use Rattle.std.proofs.Math.Nat.{mul-le-mul, mul-lt-mul_of_pos_right}
use Rattle.mk_scaled.specs.Range.{pow_le, pow-lt_reflects}

-- the product of the units, the gain and the bits paid in, as digits and one power of two
product_written : (ratio m e i : ℕ) → ratio * (m * 2 ^ e) * 2 ^ i ≡ ratio * m * 2 ^ (e + i)
product_written ratio m e i = let s : 2 ^ (e + i) ≡ 2 ^ e * 2 ^ i = pow-add 2 e i in rw s (omega arith)

pub reached : (ratio gain m e l i k : ℕ) → gain ≡ m * 2 ^ e → 2 ^ l ≤ ratio * m → k ≤ l + e + i → 2 ^ k ≤ ratio * gain * 2 ^ i
reached ratio gain m e l i k written digits within =
    let s : l + e + i ≡ l + (e + i) = omega arith in
    let p : 2 ^ l * 2 ^ (e + i) ≤ ratio * m * 2 ^ (e + i) = mul-le-mul digits (le_refl (2 ^ (e + i))) in
    rw (written, product_written ratio m e i) (le_trans (pow_le k (l + (e + i)) (rw (← s) within)) (rw (pow-add 2 l (e + i)) p))

pub reaches_within : (ratio gain m e l i k : ℕ) → gain ≡ m * 2 ^ e → ratio * m < 2 * 2 ^ l → 2 ^ k ≤ ratio * gain * 2 ^ i → k ≤ l + e + i
reaches_within ratio gain m e l i k written digits reached =
    let w : 2 ^ k ≤ ratio * m * 2 ^ (e + i) = rw (written, product_written ratio m e i) at reached in
    let d : 2 ^ (l + 1 + (e + i)) ≡ 2 ^ (l + 1) * 2 ^ (e + i) = pow-add 2 (l + 1) (e + i) in
    let f : 2 ^ (l + 1) ≡ 2 ^ l * 2 ^ 1 = pow-add 2 l 1 in
    let t : ratio * m < 2 ^ (l + 1) = omega arith in
    let u : ratio * m * 2 ^ (e + i) < 2 ^ (l + 1) * 2 ^ (e + i) = mul-lt-mul_of_pos_right t (pow_pos (e + i)) in
    let r = pow-lt_reflects k (l + 1 + (e + i)) (rw d (lt_of_le_of_lt w u)) in
    omega arith

-- no units reach no power of two
pub none_reaches : (ratio gain m i k : ℕ) → ratio * m ≡ 0 → 1 ≤ m → ¬ (2 ^ k ≤ ratio * gain * 2 ^ i)
none_reaches ratio gain m i k none positive reached =
    let p = pow_pos k in
    let l : ratio * 1 ≤ ratio * m = mul-le-mul (le_refl ratio) positive in
    let z : ratio ≡ 0 = omega arith in
    let w : 2 ^ k ≤ 0 * gain * 2 ^ i = rw z at reached in
    omega arith
