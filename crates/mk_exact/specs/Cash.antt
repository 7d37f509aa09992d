-- The cash of a factor: the points that it is worth at b points per bit.
use Rattle.std.specs.Prelude.{◌≡◌, ℕ, ◌+◌, ◌-◌, ◌*◌, ◌^◌, ◌<◌, ◌≤◌}
use Rattle.mk_exact.specs.Factors.{Fraction}

-- k is the greatest whole number with 2^k at most the b-th power of the factor
pub record IsCash (q : Fraction) (b k : ℕ) : Type 0 where
  pub covered : 2 ^ k * q.den ^ b ≤ q.num ^ b
  pub greatest : q.num ^ b < 2 ^ (k + 1) * q.den ^ b

-- were the factor less by one part in near, its cash would be at most low, and were it greater by
-- that, at least high
pub record AreNearCash (near : ℕ) (q : Fraction) (b low high : ℕ) : Type 0 where
  pub low_near : q.num ^ b * (near - 1) ^ b < 2 ^ (low + 1) * near ^ b * q.den ^ b
  pub high_near : 2 ^ high * (near - 1) ^ b * q.den ^ b ≤ q.num ^ b * near ^ b

-- the cash lies from low to high
pub record IsCashBetween (q : Fraction) (b low high : ℕ) : Type 0 where
  pub cash : ℕ
  pub is_cash : IsCash q b cash
  pub above : low ≤ cash
  pub below : cash ≤ high

-- low .. high covers the cash, and is near it by one part in so many of the factor; in the small
-- case by one part in 2^59. Of a user who holds no trade both are the cash
pub record CoversCash (small idle : Type 0) (parts : ℕ) (q : Fraction) (b low high : ℕ)
    : Type 0 where
  pub cash : ℕ
  pub is_cash : IsCash q b cash
  pub above : low ≤ cash
  pub below : cash ≤ high
  pub near : AreNearCash parts q b low high
  pub nearer : small → AreNearCash (2 ^ 59) q b low high
  pub exact : idle → (low ≡ cash) × (high ≡ cash)
