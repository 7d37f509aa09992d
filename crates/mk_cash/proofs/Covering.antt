-- An interval made of the bits of a power covers the cash.
use Rattle.std.proofs.Common.{◌≡◌, ℕ, zero, suc, ◌+◌, ◌-◌, ◌*◌, ◌^◌, ◌<◌, ◌≤◌, refl, sym, ap, ◌∙◌}
use Rattle.std.proofs.Common.{inl, inr, arith, le_refl, le_trans, lt_of_le_of_lt}
use Rattle.std.proofs.lemmas.Nat.{pow-add, mul-pow, pow_pos}
use Rattle.std.proofs.lemmas.Bool.{cases_lt}
use Rattle.std.proofs.Math.Nat.{pow-zero, pow-suc, mul-le-mul_right, mul-lt-mul_of_pos_right}
use Rattle.std.proofs.Math.Nat.{one-le-mul, one-le-pow, pow-le-pow_left, le_of_mul-le-mul_right}
use Rattle.std.proofs.Math.Nat.{lt_of_mul-lt-mul_right}
use Rattle.mk_scaled.specs.Near.{IsNear, near_same, near_between, near_width}
use Rattle.mk_scaled.specs.Range.{pow_le, pow-lt_reflects}
use Rattle.mk_exact.specs.Factors.{Fraction}
use Rattle.mk_exact.specs.Cash.{AreNearCash, IsCashBetween, CoversCash}
use Rattle.mk_exact.proofs.ExistNumbers.{greatest_power, exponent_at_most}
use Rattle.mk_cash.specs.inner.Quotient.{IsLessNear}
use Rattle.mk_cash.proofs.Nearness.{IsBetween, IsWide, near_above, near_below, exactly, low_near}
use Rattle.mk_cash.proofs.Nearness.{high_near, wide_power}

-- ---- the powers of both sides

pub power_of_power : (m n : ℕ) → (2 ^ m) ^ n ≡ 2 ^ (n * m)
power_of_power m zero = let e : 0 ≡ zero * m = omega arith in pow-zero (2 ^ m) ∙ sym (pow-zero 2) ∙ ap (λ k. 2 ^ k) e
power_of_power m (suc n) =
    let e : n * m + m ≡ suc n * m = omega arith in
    pow-suc (2 ^ m) n ∙ ap (λ k. k * 2 ^ m) (power_of_power m n) ∙ sym (pow-add 2 (n * m) m) ∙ ap (λ k. 2 ^ k) e

-- what divides a factor is a power of two
divided_by : (c t : ℕ) → 2 ^ t * (2 ^ 40) ^ c ≡ 2 ^ (40 * c + t)
divided_by c t =
    let e : t + c * 40 ≡ 40 * c + t = omega arith in
    ap (λ k. 2 ^ t * k) (power_of_power 40 c) ∙ sym (pow-add 2 t (c * 40)) ∙ ap (λ k. 2 ^ k) e

-- the factor's equation, raised to a power
raised : (n d x y g b : ℕ) → n * x ≡ y * g * d → n ^ b * x ^ b ≡ y ^ b * g ^ b * d ^ b
raised n d x y g b h =
    sym (mul-pow n x b) ∙ ap (λ k. k ^ b) h ∙ mul-pow (y * g) d b ∙ ap (λ k. k * d ^ b) (mul-pow y g b)

pub raised_factor : (n d c t i g b : ℕ) → n * (2 ^ t * (2 ^ 40) ^ c) ≡ 2 ^ i * g * d → n ^ b * 2 ^ (b * (40 * c + t)) ≡ 2 ^ (b * i) * g ^ b * d ^ b
raised_factor n d c t i g b h =
    let e : n * 2 ^ (40 * c + t) ≡ 2 ^ i * g * d = ap (λ k. n * k) (sym (divided_by c t)) ∙ h in
    rw (← power_of_power (40 * c + t) b, ← power_of_power i b) (raised n d (2 ^ (40 * c + t)) (2 ^ i) g b e)

-- ---- the cash of a power

covered : (k s m q d g n : ℕ) → n * s ≡ q * g * d → m ≤ g → k * s ≡ m * q → k * d * s ≤ n * s
covered k s m q d g n h l e =
    let a : m * (q * d) ≤ g * (q * d) = mul-le-mul_right (q * d) l in
    let i : k * s * d ≡ m * q * d = ap (λ z. z * d) e in
    omega arith

not_covered : (k s m q d g n : ℕ) → n * s ≡ q * g * d → g < m → k * s ≡ m * q → 1 ≤ q * d → n * s < k * d * s
not_covered k s m q d g n h l e p =
    let a : g * (q * d) < m * (q * d) = mul-lt-mul_of_pos_right l p in
    let i : k * s * d ≡ m * q * d = ap (λ z. z * d) e in
    omega arith

owed_within : (s m q d g n : ℕ) → n * s ≡ q * g * d → g < m → 1 ≤ q * d → d ≤ n → s * d < m * q * d
owed_within s m q d g n h l p o =
    let a : g * (q * d) < m * (q * d) = mul-lt-mul_of_pos_right l p in
    let b : d * s ≤ n * s = mul-le-mul_right s o in
    omega arith

-- n * 2 ^ s is 2 ^ p * g * d, where g has m bits
record IsWeighed (n d g p s m : ℕ) : Type 0 where
  same : n * 2 ^ s ≡ 2 ^ p * g * d
  positive : 1 ≤ d
  at_least_one : d ≤ n
  below : 2 ^ m ≤ g
  above : g < 2 ^ (m + 1)

scaled_positive : (n d g p s m : ℕ) → IsWeighed n d g p s m → 1 ≤ 2 ^ p * d
scaled_positive n d g p s m w = one-le-mul (pow_pos p) w.positive

weighed_owed : (n d g p s m : ℕ) → IsWeighed n d g p s m → s ≤ m + p
weighed_owed n d g p s m w =
    let l : 2 ^ s * d < 2 ^ (m + 1) * 2 ^ p * d = owed_within (2 ^ s) (2 ^ (m + 1)) (2 ^ p) d g n w.same w.above (scaled_positive n d g p s m w) w.at_least_one in
    let h : 2 ^ s < 2 ^ (m + 1 + p) = rw (pow-add 2 (m + 1) p) (lt_of_mul-lt-mul_right d l) in
    let r = pow-lt_reflects s (m + 1 + p) h in
    omega arith

same_bits : (k s m p : ℕ) → k + s ≡ m + p → 2 ^ k * 2 ^ s ≡ 2 ^ m * 2 ^ p
same_bits k s m p e = sym (pow-add 2 k s) ∙ ap (λ i. 2 ^ i) e ∙ pow-add 2 m p

weighed_covered : (n d g p s m k : ℕ) → IsWeighed n d g p s m → k + s ≡ m + p → 2 ^ k * d ≤ n
weighed_covered n d g p s m k w e =
    le_of_mul-le-mul_right {k = 2 ^ s} (covered (2 ^ k) (2 ^ s) (2 ^ m) (2 ^ p) d g n w.same w.below (same_bits k s m p e)) (pow_pos s)

weighed_greatest : (n d g p s m k : ℕ) → IsWeighed n d g p s m → k + s ≡ m + p → n < 2 ^ (k + 1) * d
weighed_greatest n d g p s m k w e =
    let f : k + 1 + s ≡ m + 1 + p = omega arith in
    lt_of_mul-lt-mul_right (2 ^ s) (not_covered (2 ^ (k + 1)) (2 ^ s) (2 ^ (m + 1)) (2 ^ p) d g n w.same w.above (same_bits (k + 1) s (m + 1) p f) (scaled_positive n d g p s m w))

-- ---- the interval

-- the whole bits of a power: at the lower end of its base, and at the upper end
pub record ArePowerBits (lo hi b l h : ℕ) : Type 0 where
  pub below : 2 ^ l ≤ lo ^ b
  pub above : hi ^ b < 2 ^ (h + 1)
  pub low_near : IsLessNear (2 ^ (l + 1)) (lo ^ b) (2 * b)
  pub high_near : IsNear (hi ^ b) (2 ^ h) (2 * b)

pub low_bits : (lo b l down : ℕ) → IsNear down (lo ^ b) (2 * b) → down < 2 ^ (l + 1)
    → IsLessNear (2 ^ (l + 1)) (lo ^ b) (2 * b)
low_bits lo b l down near less = record {
  near = lt_of_le_of_lt near.near (mul-lt-mul_of_pos_right less
      (one-le-pow (2 * b) (2 ^ 60 + 1) (omega arith)));
}

pub high_bits : (hi b h up : ℕ) → IsNear (hi ^ b) up (2 * b) → 2 ^ h ≤ up
    → IsNear (hi ^ b) (2 ^ h) (2 * b)
high_bits hi b h up near less = near_between (hi ^ b) (hi ^ b) (2 ^ h) up (2 * b) (le_refl (hi ^ b))
    less near

-- a factor whose gain lies between two ends, and the power of which it is a b-th root
pub record IsRaised (q : Fraction) (b g p s lo hi grade : ℕ) : Type 0 where
  pub same : q.num ^ b * 2 ^ s ≡ 2 ^ p * g ^ b * q.den ^ b
  pub positive : 1 ≤ q.den
  pub at_least_one : q.den ≤ q.num
  pub between : IsBetween g lo hi grade

-- z has the weight w, moved by p in and s out
moved_less : (z w d n m l low p s : ℕ) → z * 2 ^ s ≡ 2 ^ p * w * d → w * m < 2 ^ (l + 1) * n
    → l + p ≤ low + s → 1 ≤ d → z * m < 2 ^ (low + 1) * n * d
moved_less z w d n m l low p s same less fits some = lt_of_mul-lt-mul_right (2 ^ s) scaled
  where
    scaled : z * m * 2 ^ s < 2 ^ (low + 1) * n * d * 2 ^ s
    scaled =
        let a : w * m * (2 ^ p * d) < 2 ^ (l + 1) * n * (2 ^ p * d) = mul-lt-mul_of_pos_right less
        (one-le-mul (pow_pos p) some) in
        let e : 2 ^ (l + 1) * 2 ^ p ≤ 2 ^ (low + 1) * 2 ^ s = rw
        (← pow-add 2 (l + 1) p, ← pow-add 2 (low + 1) s)
        (pow_le (l + 1 + p) (low + 1 + s) (omega arith)) in
        let f : 2 ^ (l + 1) * 2 ^ p * (n * d) ≤ 2 ^ (low + 1) * 2 ^ s * (n * d) = mul-le-mul_right
        (n * d) e in
        let g : z * 2 ^ s * m ≡ 2 ^ p * w * d * m = ap (λ k. k * m) same in
        omega arith

moved_most : (z w d n m h high p s : ℕ) → z * 2 ^ s ≡ 2 ^ p * w * d → 2 ^ h * m ≤ w * n
    → high + s ≡ h + p → 2 ^ high * m * d ≤ z * n
moved_most z w d n m h high p s same most fits = le_of_mul-le-mul_right {k = 2 ^ s} scaled
    (pow_pos s)
  where
    scaled : 2 ^ high * m * d * 2 ^ s ≤ z * n * 2 ^ s
    scaled =
        let a : 2 ^ h * m * (2 ^ p * d) ≤ w * n * (2 ^ p * d) = mul-le-mul_right (2 ^ p * d) most in
        let e : 2 ^ high * 2 ^ s * (m * d) ≡ 2 ^ h * 2 ^ p * (m * d) = ap (λ k. k * (m * d))
        (same_bits high s h p fits) in
        let g : z * 2 ^ s * n ≡ 2 ^ p * w * d * n = ap (λ k. k * n) same in
        omega arith

-- a number of at least one has its bits
has_bits : (g : ℕ) → 1 ≤ g → (m : ℕ) × (2 ^ m ≤ g) × (g < 2 ^ (m + 1))
has_bits g some = let bits = greatest_power g 1 (omega arith) some in
    (bits.0, omega (arith, bits.1), omega (arith, bits.2))

-- ---- where the gain is one

one_power : (b : ℕ) → 1 ^ b ≡ 1
one_power zero = pow-zero 1
one_power (suc b) = let i = one_power b in pow-suc 1 b ∙ rw i refl

-- no whole number above one is near it
one_alone : (high steps : ℕ) → steps < 2 ^ 59 → IsNear 1 high steps → high ≤ 1
one_alone high steps few near = elim (cases_lt 1 high) [
  | inl more ↦ absurd (two (2 ^ 60 - steps) (omega arith) more (near_width 1 high steps near))
  | inr less ↦ less
]
  where
    two : (c : ℕ) → 2 ^ 59 < c → 1 < high → high * c ≤ 1 * 2 ^ 60 → ⊥
    two c l more h = let m : 2 * c ≤ high * c = mul-le-mul_right c more in omega arith

no_bits : (k : ℕ) → 2 ^ k ≤ 1 → k ≡ 0
no_bits k h = let l : k ≤ 0 = exponent_at_most k 0 (rw (pow-zero 2) h) in omega arith

-- ---- the interval

module _ (q : Fraction) (b g p s lo hi grade l h : ℕ) (is : IsRaised q b g p s lo hi grade)
    (bits : ArePowerBits lo hi b l h) (some : 1 ≤ lo)
  where
    -- the whole bits of the gain's power lie between those of both ends, and pay for what is owed
    record AreGainBits (m : ℕ) : Type 0 where
      weighed : IsWeighed (q.num ^ b) (q.den ^ b) (g ^ b) p s m
      owed : s ≤ m + p
      above : l ≤ m
      below : m ≤ h

    gain_bits : (m : ℕ) × AreGainBits m
    gain_bits = by_bits (has_bits (g ^ b) (one-le-pow b g (le_trans some is.between.lower)))
      where
        by_bits : (m : ℕ) × (2 ^ m ≤ g ^ b) × (g ^ b < 2 ^ (m + 1)) → (m : ℕ) × AreGainBits m
        by_bits m =
            let w : IsWeighed (q.num ^ b) (q.den ^ b) (g ^ b) p s m.0 = record {
              same = is.same;
              positive = one-le-pow b q.den is.positive;
              at_least_one =
                  pow-le-pow_left is.at_least_one b;
              below = m.1;
              above = m.2;
            } in
            let x : l < m.0 + 1 = pow-lt_reflects l (m.0 + 1)
            (lt_of_le_of_lt (le_trans bits.below (pow-le-pow_left is.between.lower b)) m.2) in
            let y : m.0 < h + 1 = pow-lt_reflects m.0 (h + 1)
            (lt_of_le_of_lt (le_trans m.1 (pow-le-pow_left is.between.upper b)) bits.above) in (
              m.0,
              record {
                weighed = w;
                owed = weighed_owed (q.num ^ b) (q.den ^ b) (g ^ b) p s m.0 w;
                above = omega arith;
                below = omega arith;
              },
            )

    owed_at_most : s ≤ h + p
    owed_at_most = let r = gain_bits.1.owed in let y = gain_bits.1.below in omega arith

    -- the cash lies between the two ends, however wide they are
    pub cash_between : (low high : ℕ) → low ≡ l + p - s → high ≡ h + p - s
        → IsCashBetween q b low high
    cash_between low high low_is high_is =
        let m = gain_bits.0 in
        let w = gain_bits.1.weighed in
        let r = gain_bits.1.owed in
        let x = gain_bits.1.above in
        let y = gain_bits.1.below in
        let f : m + p - s + s ≡ m + p = omega arith in
        record {
          cash = m + p - s;
          is_cash = record {
            covered = weighed_covered (q.num ^ b) (q.den ^ b) (g ^ b) p s m (m + p - s) w f;
            greatest = weighed_greatest (q.num ^ b) (q.den ^ b) (g ^ b) p s m (m + p - s) w f;
          };
          above = omega arith;
          below = omega arith;
        }

-- ---- the interval that is printed

module _ (q : Fraction) (b g p s lo hi grade l h : ℕ) (is : IsRaised q b g p s lo hi grade)
    (bits : ArePowerBits lo hi b l h) (some : 1 ≤ lo) (few : b ≤ 1000000) (graded : grade < 2 ^ 59)
    (parts : ℕ) (wide_enough : IsWide parts (grade + 2))
  where
    near_by : (near steps low high : ℕ) → IsBetween g lo hi steps → IsWide near (steps + 2)
        → l + p ≤ low + s → high + s ≡ h + p → AreNearCash near q b low high
    near_by near steps low high between wide low_is high_is = record {
      low_near = moved_less (q.num ^ b) (g ^ b) (q.den ^ b) (near ^ b) ((near - 1) ^ b) l low p s
          is.same below low_is (one-le-pow b q.den is.positive);
      high_near = moved_most (q.num ^ b) (g ^ b) (q.den ^ b) (near ^ b) ((near - 1) ^ b) h high p s
          is.same above high_is;
    }
      where
        below : g ^ b * (near - 1) ^ b < 2 ^ (l + 1) * near ^ b
        below =
            let one : 2 ^ (l + 1) * 1 ≡ 2 ^ (l + 1) = omega arith in
            let r : g ^ b * (near - 1) ^ b < 2 ^ (l + 1) * near ^ b * 1
            = low_near (g ^ b) 1 (lo ^ b) 1 l near (b * steps) (2 * b) 0 (steps + 2) b
            (near_below b g lo hi steps between) (rw one bits.low_near) (near_same 1)
            (omega arith) wide in
            omega arith

        above : 2 ^ h * (near - 1) ^ b ≤ g ^ b * near ^ b
        above =
            let one : 2 ^ h * 1 ≡ 2 ^ h = omega arith in
            let r : 2 ^ h * (near - 1) ^ b * 1 ≤ g ^ b * near ^ b
            = high_near (g ^ b) 1 (hi ^ b) 1 h near (b * steps) (2 * b) 0 (steps + 2) b
            (near_above b g lo hi steps between) (rw one bits.high_near) (near_same 1)
            (omega arith) wide in
            omega arith

    -- both ends have no bits where the lower one is at most one
    none_at_one : lo ≤ 1 → (l ≡ 0) × (h ≡ 0)
    none_at_one one =
        let low : lo ≡ 1 = omega arith in
        let near : IsNear 1 hi grade = rw low at is.between.near in
        let above = one_alone hi grade (omega arith) near in
        let below = is.between.lower in
        let upper = is.between.upper in
        let high : hi ≡ 1 = omega arith in
        let top : IsNear 1 (2 ^ h) (2 * b) = rw (high, one_power b) at bits.high_near in (
          no_bits l (rw (low, one_power b) at bits.below),
          no_bits h
              (one_alone (2 ^ h) (2 * b) (omega arith) top),
        )

    pub covers_cash : (small idle : Type 0) (low high : ℕ) → (small → lo ≡ hi) → (idle → lo ≤ 1)
        → low ≡ l + p - s → high ≡ h + p - s → CoversCash small idle parts q b low high
    covers_cash small idle low high exact one low_is high_is =
        let between = cash_between q b g p s lo hi grade l h is bits some low high low_is high_is in
        let above = between.above in
        let below = between.below in
        let owed : s ≤ h + p = owed_at_most q b g p s lo hi grade l h is bits some in
        record {
          cash = between.cash;
          is_cash = between.is_cash;
          above = above;
          below = below;
          near = near_by parts grade low high is.between wide_enough (omega arith) (omega arith);
          nearer = λ e. near_by (2 ^ 59) 0 low high (exactly g lo hi grade is.between (exact e))
              (wide_power 2 (omega arith)) (omega arith) (omega arith);
          exact = λ e. let none = none_at_one (one e) in let a = none.0 in let c = none.1
              in (omega arith, omega arith);
        }
