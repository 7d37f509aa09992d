-- Which numbers a judge of a factor's cash and bits compares.
use Rattle.std.specs.Prelude.{◌≡◌, ℕ, ◌+◌, ◌-◌, ◌*◌, ◌^◌, ◌⊎◌, Bool, false, if◌then◌else◌}
use Rattle.mk_net.specs.Bounds.{sharpness}
use Rattle.mk_exact.specs.Factors.{Fraction}
use Rattle.mk_enclose.specs.declared.factor.Factor.{Factor}
use Rattle.mk_enclose.specs.Enclosure.{HasGrade, IsExact}
use Rattle.mk_judge.specs.Compared.{AreNear}

-- the ends of cash are near by one part in so many, in a market of at most so many trades
abbrev pub nearness : Bool → ℕ → ℕ
nearness small most_trades = if small then 2 ^ 59 else sharpness most_trades

-- two numbers that CoversCash compares are near: the factor's power and that of two, at the low end
-- and behind the high end, and the same off by one part in `near`
abbrev pub ArePowersNear : ℕ → Fraction → ℕ → ℕ → ℕ → ℕ → Type 0
ArePowersNear near q b low high steps =
    AreNear (2 ^ low * q.den ^ b) (q.num ^ b) steps
    ⊎ (AreNear (2 ^ (high + 1) * q.den ^ b) (q.num ^ b) steps
    ⊎ (AreNear (2 ^ (low + 1) * near ^ b * q.den ^ b) (q.num ^ b * (near - 1) ^ b) steps
    ⊎ AreNear (2 ^ high * (near - 1) ^ b * q.den ^ b) (q.num ^ b * near ^ b) steps))

-- they are near by the steps of the grade of its gain and eight more, for each factor of the power;
-- never where the user holds no trade
pub record IsCashNear (small : Bool) (most_trades : ℕ) (factor : Factor) (q : Fraction)
    (b low high : ℕ) : Type 0 where
  pub traded : factor.trades ≡ 0 → ⊥
  pub near : (g : ℕ) → HasGrade factor.gain g
      → ArePowersNear (nearness small most_trades) q b low high (b * (g + 8))

-- ---- whole bits

-- the bits that are asked for are near the factor, by the steps of the grade of its gain, which
-- was rounded; never where the
-- user holds no trade
pub record IsBitsNear (factor : Factor) (q : Fraction) (bits : ℕ) : Type 0 where
  pub traded : factor.trades ≡ 0 → ⊥
  pub rounded : IsExact factor.gain → ⊥
  pub near : (g : ℕ) → HasGrade factor.gain g → AreNear (2 ^ bits * q.den) q.num g

-- two numbers that IsMost compares are near by one step more: the bits that are told and the
-- factor, or the next bit and the factor less by one part in twice a market's number; neither in
-- the small case, nor where the user holds no trade
pub record AreBitsNear (small : Bool) (most_trades : ℕ) (factor : Factor) (q : Fraction)
    (most : ℕ) : Type 0 where
  pub traded : factor.trades ≡ 0 → ⊥
  pub large : small ≡ false
  pub near : (g : ℕ) → HasGrade factor.gain g → AreNear (2 ^ most * q.den) q.num (g + 1)
      ⊎ AreNear (2 ^ (most + 1) * (2 * sharpness most_trades) * q.den)
      (q.num * (2 * sharpness most_trades - 1)) (g + 1)
