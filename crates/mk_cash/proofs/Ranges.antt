-- What it gives that the powers are in range: small exponents.
use Rattle.std.proofs.Common.{◌≡◌, ℕ, ◌+◌, ◌*◌, ◌^◌, ◌<◌, ◌≤◌, arith, le_trans}
use Rattle.std.proofs.Math.Nat.{pow-zero, mul_comm, one-le-pow}
use Rattle.mk_scaled.specs.Range.{two_to, exponent_below}

exponent_small : (x y k : ℕ) → 1 ≤ y → 2 ^ x * y < two_to k → x < k
exponent_small x y k p h =
    let z : 2 ^ 0 ≤ y = rw (pow-zero 2) p in
    let r = exponent_below y x 0 k z (rw (mul_comm y (2 ^ x)) h) in
    omega arith

-- the bits of what multiplies a factor
pub gained_small : (b r i low high k : ℕ) → r ≡ i → 1 ≤ low → low ≤ high → 2 ^ (b * i) * high ^ b < two_to k → b * r < k
gained_small b r i low high k e p o s = rw e (exponent_small (b * i) (high ^ b) k (one-le-pow b high (le_trans p o)) s)

-- the bits of what divides it
pub owed_small : (b c r t k : ℕ) → r ≡ t → 2 ^ (b * (40 * c + t)) < two_to k → b * (40 * c + r) < k
owed_small b c r t k e h = rw e (exponent_small (b * (40 * c + t)) 1 k (omega arith) (omega arith))
