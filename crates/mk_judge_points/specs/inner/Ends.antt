-- The ends of cash by the comparisons that decide them.
use Rattle.std.specs.Prelude.{ℕ, ◌+◌, ◌-◌, ◌*◌, ◌^◌, ◌<◌, ◌≤◌}
use Rattle.mk_exact.specs.Factors.{Fraction}

-- the power of the factor is at least that of two at the low end and below that behind the high
-- end;
-- off by one part in `near`, below that behind the low end and at least that at the high end
pub record AreCashEnds (near : ℕ) (q : Fraction) (b low high : ℕ) : Type 0 where
  pub low_is : 2 ^ low * q.den ^ b ≤ q.num ^ b
  pub high_is : q.num ^ b < 2 ^ (high + 1) * q.den ^ b
  pub low_near : q.num ^ b * (near - 1) ^ b < 2 ^ (low + 1) * near ^ b * q.den ^ b
  pub high_near : 2 ^ high * (near - 1) ^ b * q.den ^ b ≤ q.num ^ b * near ^ b
