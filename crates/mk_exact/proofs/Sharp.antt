-- How near printed numbers are, and that what is near by one part in more is near by one part
-- in fewer.
use Rattle.std.proofs.Common.{ℕ, zero, suc, ◌+◌, ◌-◌, ◌*◌, ◌^◌, ◌<◌, ◌≤◌, ◌≡◌, Bool, true, false}
use Rattle.std.proofs.Common.{cond, inl, inr, arith, refl, leb-true, leb-false}
use Rattle.std.specs.Prelude.{nat_le}
use Rattle.std.proofs.Math.Nat.{mul-le-mul_left, mul-le-mul_right, mul-lt-mul_of_pos_right}
use Rattle.std.proofs.Math.Nat.{le_of_mul-le-mul_right, lt_of_mul-lt-mul_right, pow-le-pow_left}
use Rattle.std.proofs.Math.Nat.{one-le-pow}
use Rattle.std.proofs.lemmas.Nat.{mul-pow}
use Rattle.std.proofs.lemmas.Bool.{cases_lt}
use Rattle.mk_net.specs.Bounds.{usual_trades, sharpness, grade_room}
use Rattle.mk_exact.specs.Factors.{Fraction}
use Rattle.mk_exact.specs.Prices.{CoversPrice}
use Rattle.mk_exact.specs.Cash.{AreNearCash, CoversCash}
use Rattle.mk_exact.specs.Accepted.{IsMost}

-- what holds of both numbers holds of a market's
pub at_sharp : (P : ℕ → Type 0) → P (2 ^ 42) → P (2 ^ 39) → (most_trades : ℕ)
    → P (sharpness most_trades)
at_sharp P usual large most_trades = either (nat_le most_trades usual_trades)
  where
    either : (b : Bool) → P (cond b (2 ^ 42) (2 ^ 39))
    either true = usual
    either false = large

-- and what holds of each number and the grade that there is room for, of a market's two
pub at_room : (P : ℕ → ℕ → Type 0) → P (2 ^ 42) (2 ^ 17) → P (2 ^ 39) (2 ^ 20 - 1)
    → (most_trades : ℕ) → P (sharpness most_trades) (grade_room most_trades)
at_room P usual large most_trades = either (nat_le most_trades usual_trades)
  where
    either : (b : Bool) → P (cond b (2 ^ 42) (2 ^ 39)) (cond b (2 ^ 17) (2 ^ 20 - 1))
    either true = usual
    either false = large

-- what holds of 2^42 where there are few trades, and of 2^39 where there are more, holds of a
-- market's
pub by_trades : (P : ℕ → Type 0) (most_trades : ℕ) → (most_trades ≤ usual_trades → P (2 ^ 42))
    → (usual_trades < most_trades → P (2 ^ 39)) → P (sharpness most_trades)
by_trades P most_trades usual large = either (nat_le most_trades usual_trades) refl
  where
    either : (b : Bool) → nat_le most_trades usual_trades ≡ b → P (cond b (2 ^ 42) (2 ^ 39))
    either true e = usual (leb-true most_trades usual_trades e)
    either false e = large (leb-false most_trades usual_trades e)

pub sharp : (most_trades : ℕ) → 2 ^ 39 ≤ sharpness most_trades
sharp = at_sharp (λ near. 2 ^ 39 ≤ near) (omega arith) (omega arith)

pub sharp_enough : (most_trades : ℕ) → 2 ≤ sharpness most_trades
sharp_enough n = let l = sharp n in omega arith

-- ---- one part in fewer

parts : (near other : ℕ) → 1 ≤ near → near ≤ other → (near - 1) * other ≤ (other - 1) * near
parts near other some le =
    let a : (near - 1) * other + other ≡ near * other = by_one near other some in
    let c : (other - 1) * near + near ≡ other * near = by_one other near (omega arith) in
    omega arith
  where
    by_one : (n m : ℕ) → 1 ≤ n → (n - 1) * m + m ≡ n * m
    by_one zero m one = absurd (omega arith)
    by_one (suc n) m one = let e : suc n - 1 ≡ n = omega arith in rw e (omega arith)

less_by : (t x near other : ℕ) → 1 ≤ near → near ≤ other → t * (other - 1) < x * other
    → t * (near - 1) < x * near
less_by t x near other some le h = lt_of_mul-lt-mul_right other scaled
  where
    scaled : t * (near - 1) * other < x * near * other
    scaled =
        let a : t * ((near - 1) * other) ≤ t * ((other - 1) * near) = mul-le-mul_left t
        (parts near other some le) in
        let c : t * (other - 1) * near < x * other * near = mul-lt-mul_of_pos_right h some in
        omega (arith, a, c)

-- the same where a whole unit stands beside it
less_beside : (t x d near other : ℕ) → 2 ≤ near → near ≤ other
    → t * (other - 1) < x * other + d * (other - 1) → t * (near - 1) < x * near + d * (near - 1)
less_beside t x d near other some le h =
    elim (cases_lt t d) [ inl fewer ↦ below fewer | inr more ↦ above more ]
  where
    below : t < d → t * (near - 1) < x * near + d * (near - 1)
    below fewer =
        let l : t * (near - 1) < d * (near - 1) = mul-lt-mul_of_pos_right fewer (omega arith) in
        omega (arith, l)

    rest : (e : ℕ) → t ≡ d + e → t * (near - 1) < x * near + d * (near - 1)
    rest e same =
        let k : (d + e) * (other - 1) < x * other + d * (other - 1) = rw same at h in
        let l : e * (near - 1) < x * near =
        less_by e x near other (omega arith) le (omega (arith, k)) in
        rw same (omega (arith, l))

    above : d ≤ t → t * (near - 1) < x * near + d * (near - 1)
    above more = rest (t - d) (omega arith)

pub price_covers_more : (small : Type 0) (near nearer : ℕ) (price : Fraction) (low high : ℕ)
    → 2 ≤ near → near ≤ nearer → CoversPrice small nearer price low high
    → CoversPrice small near price low high
price_covers_more small near nearer price low high some le h = record {
  below = h.below;
  above = h.above;
  at_most_one = h.at_most_one;
  low_near = less_by (10 ^ 10 * price.num) ((low + 1) * price.den) near nearer (omega arith) le
      h.low_near;
  high_near = less_beside (high * price.den) (10 ^ 10 * price.num) price.den near nearer some le
      h.high_near;
  never = h.never;
  sure = h.sure;
  floor = h.floor;
  ceiling = h.ceiling;
}

module _ (q : Fraction) (b low high : ℕ) where
  -- one part in fewer is nearer
  pub less_near : (near other : ℕ) → 1 ≤ near → near ≤ other → AreNearCash other q b low high
      → AreNearCash near q b low high
  less_near near other some le h = record { low_near = below; high_near = above }
    where
      powers : (near - 1) ^ b * other ^ b ≤ (other - 1) ^ b * near ^ b
      powers = rw (← mul-pow (near - 1) other b, ← mul-pow (other - 1) near b)
          (pow-le-pow_left (parts near other some le) b)

      below : q.num ^ b * (near - 1) ^ b < 2 ^ (low + 1) * near ^ b * q.den ^ b
      below = lt_of_mul-lt-mul_right (other ^ b) scaled
        where
          scaled : q.num ^ b * (near - 1) ^ b * other ^ b
              < 2 ^ (low + 1) * near ^ b * q.den ^ b * other ^ b
          scaled =
              let a : q.num ^ b * ((near - 1) ^ b * other ^ b)
              ≤ q.num ^ b * ((other - 1) ^ b * near ^ b) = mul-le-mul_left (q.num ^ b) powers in
              let c : q.num ^ b * (other - 1) ^ b * near ^ b
              < 2 ^ (low + 1) * other ^ b * q.den ^ b * near ^ b =
              mul-lt-mul_of_pos_right h.low_near (one-le-pow b near some) in
              omega (arith, a, c)

      above : 2 ^ high * (near - 1) ^ b * q.den ^ b ≤ q.num ^ b * near ^ b
      above = le_of_mul-le-mul_right {k = other ^ b} scaled (one-le-pow b other (omega arith))
        where
          scaled : 2 ^ high * (near - 1) ^ b * q.den ^ b * other ^ b
              ≤ q.num ^ b * near ^ b * other ^ b
          scaled =
              let a : 2 ^ high * q.den ^ b * ((near - 1) ^ b * other ^ b)
              ≤ 2 ^ high * q.den ^ b * ((other - 1) ^ b * near ^ b) =
              mul-le-mul_left (2 ^ high * q.den ^ b) powers in
              let c : 2 ^ high * (other - 1) ^ b * q.den ^ b * near ^ b
              ≤ q.num ^ b * other ^ b * near ^ b = mul-le-mul_right (near ^ b) h.high_near in
              omega (arith, a, c)

pub cash_covers_more : (small idle : Type 0) (near nearer : ℕ) (q : Fraction) (b low high : ℕ)
    → 2 ≤ near → near ≤ nearer → CoversCash small idle nearer q b low high
    → CoversCash small idle near q b low high
cash_covers_more small idle near nearer q b low high some le h = record {
  cash = h.cash;
  is_cash = h.is_cash;
  above = h.above;
  below = h.below;
  near = less_near q b low high near nearer (omega arith) le h.near;
  nearer = h.nearer;
  exact = h.exact;
}

pub most_covers_more : (small idle : Type 0) (near nearer : ℕ) (q : Fraction) (k : ℕ)
    → 2 ≤ near → near ≤ nearer → IsMost small idle nearer q k → IsMost small idle near q k
most_covers_more small idle near nearer q k some le h = record {
  within = h.within;
  nearly = let l : q.num * (2 * near - 1) < 2 ^ (k + 1) * q.den * (2 * near) = less_by q.num
      (2 ^ (k + 1) * q.den) (2 * near) (2 * nearer) (omega arith) (omega arith)
      (let m = h.nearly in omega (arith, m)) in omega (arith, l);
  exactly = h.exactly;
}
