-- How a caller shows what the contracts on cash and on the operator's loss ask.
use Rattle.std.specs.Prelude.{◌≡◌, ℕ, ◌+◌, ◌-◌, ◌*◌, ◌^◌, ◌<◌, ◌≤◌}
use Rattle.std.proofs.Common.{arith, le_refl, le_trans, lt_of_le_of_lt}
use Rattle.std.proofs.Math.Nat.{mul-le-mul, mul-le-mul_left, mul_comm}
use Rattle.mk_net.specs.Bounds.{max_variables, million}
use Rattle.mk_scaled.specs.Near.{IsNear, near_width}
use Rattle.mk_scaled.specs.Range.{two_to, two_to-small, two_to-suc, two_to-mono, two_to-add, two_to-lt, pow_at_most}
use Rattle.mk_enclose.specs.declared.factor.Factor.{Factor}
use Rattle.mk_enclose.specs.declared.enclosure.Enclosure.{Enclosure}
use Rattle.mk_enclose.specs.Enclosure.{upper_of, Encloses, IsGradedWithin}
use Rattle.mk_enclose.specs.Factor.{paid_in, taken_out}
use Rattle.mk_cash.specs.Factors.{HasPowersInRange}

-- A gain of few bits, few bits paid in or taken out and few trades leave the powers in range.
power_below : (b i h gain k : ℕ) → gain ≤ two_to h → b * (i + h) < k → 2 ^ (b * i) * gain ^ b < two_to k
power_below b i h gain k l s =
    let e : h * b ≡ b * h = mul_comm h b in
    let a : 2 ^ (b * i) ≤ two_to (b * i) = two_to-small (b * i) (b * i) (le_refl (b * i)) in
    let c : gain ^ b ≤ two_to (b * h) = rw e at (pow_at_most gain h b l) in
    let f : b * i + b * h < k = omega arith in
    lt_of_le_of_lt (rw (two_to-add (b * i) (b * h)) (mul-le-mul a c)) (two_to-lt (b * i + b * h) k f)

pub powers_in_range : (f : Factor) (b h : ℕ) → upper_of f.gain ≤ two_to h → b * (paid_in f.net + h) < 2 ^ 50 → b * (40 * f.trades + taken_out f.net) < 2 ^ 50 → HasPowersInRange f b
powers_in_range f b h l i o = record {
  above = power_below b (paid_in f.net) h (upper_of f.gain) (2 ^ 50) l i;
  below = lt_of_le_of_lt (two_to-small (b * (40 * f.trades + taken_out f.net)) (b * (40 * f.trades + taken_out f.net)) (le_refl _)) (two_to-lt (b * (40 * f.trades + taken_out f.net)) (2 ^ 50) o);
}

-- An enclosure of a weight of at most a million for each variable is in range.
double_at_most : (low high grade : ℕ) → grade ≤ 2 ^ 17 → IsNear low high grade → high ≤ 2 * low
double_at_most low high grade h near =
    let w : high * (2 ^ 60 - grade) ≤ low * 2 ^ 60 = near_width low high grade near in
    let m : high * 2 ^ 59 ≤ high * (2 ^ 60 - grade) = mul-le-mul_left high (omega arith) in
    omega arith

pub least_in_range : (e : Enclosure) (m variables : ℕ) → IsGradedWithin e (2 ^ 17) → Encloses e m → variables ≤ max_variables → m ≤ million ^ variables → upper_of e ≤ two_to 6000
least_in_range e m variables graded encloses few part =
    let d : e.hi ≤ 2 * e.lo = double_at_most e.lo e.hi graded.grade graded.small graded.has.near in
    let lower = encloses.lower in
    let s : 1000000 ≤ two_to 20 = le_trans (omega arith) (two_to-small 20 20 (omega arith)) in
    let p : million ^ variables ≤ two_to (20 * variables) = pow_at_most 1000000 20 variables s in
    let n : two_to (20 * variables) ≤ two_to 5120 = two_to-mono (20 * variables) 5120 (omega arith) in
    let t : two_to 5121 ≡ two_to 5120 + two_to 5120 = two_to-suc 5120 in
    let u : two_to 5121 ≤ two_to 6000 = two_to-mono 5121 6000 (omega arith) in
    omega arith
