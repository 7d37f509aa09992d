-- The cash of a factor is one number.
use Rattle.std.proofs.Common.{ℕ, ◌+◌, ◌*◌, ◌^◌, ◌<◌, ◌≤◌, ◌⊎◌, inl, inr, arith, mul-le-mul_right}
use Rattle.std.proofs.Math.Nat.{pow-le-pow_right}
use Rattle.std.proofs.lemmas.Bool.{cases_lt}
use Rattle.mk_exact.specs.Factors.{Fraction}
use Rattle.mk_exact.specs.Cash.{IsCash}

-- a factor has no more cash than its cash
pub no_more : (q : Fraction) (b k n : ℕ) → IsCash q b k → IsCash q b n → n ≤ k
no_more q b k n h cash = at (cases_lt k n)
  where
    at : (k < n) ⊎ (n ≤ k) → n ≤ k
    at (inl more) =
        let powers : 2 ^ (k + 1) ≤ 2 ^ n = (let p : k + 1 ≤ n = omega arith in pow-le-pow_right {n = 2} (omega arith) p) in
        let most : 2 ^ (k + 1) * q.den ^ b ≤ 2 ^ n * q.den ^ b = mul-le-mul_right (q.den ^ b) powers in
        omega (arith, h.greatest, cash.covered)
    at (inr most) = most
