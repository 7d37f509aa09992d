-- What the comparisons of a factor's power are together.
use Rattle.std.proofs.Common.{◌≡◌, ℕ, zero, suc, ◌+◌, ◌-◌, ◌*◌, ◌^◌, ◌<◌, ◌≤◌, ◌⊎◌, refl, sym, ap, ◌∙◌, inl, inr, arith, le_trans, lt_of_le_of_lt, le_refl}
use Rattle.std.proofs.lemmas.Bool.{cases_lt}
use Rattle.std.proofs.lemmas.Nat.{pow-add, mul-pow, pow_pos}
use Rattle.std.proofs.Math.Nat.{mul-le-mul, mul-le-mul_right, le_of_mul-le-mul_right, lt_of_mul-lt-mul_right, pow-le-pow_left, one-le-pow, one-le-mul, pow-zero, pow-suc}
use Rattle.mk_scaled.specs.Range.{two_to, IsInRange, pow_le, power_in_range, two_to-lt, two_to-small, mul_at_most, least_at_most}
use Rattle.mk_scaled.specs.Rounding.{IsLeastAbove}
use Rattle.mk_exact.specs.Factors.{Fraction}
use Rattle.mk_exact.specs.Cash.{IsCash, AreNearCash, CoversCash}
use Rattle.mk_exact.specs.Existing.{IsSafeFactor}
use Rattle.mk_exact.specs.Accepted.{IsMost}
use Rattle.mk_exact.proofs.Sharp.{less_near}
use Rattle.mk_exact.proofs.ExistNumbers.{cash_exists, further, power_less, near_itself}
use Rattle.mk_enclose.specs.declared.factor.Factor.{Factor}
use Rattle.mk_enclose.specs.Factor.{paid_in, taken_out}
use Rattle.mk_cash.proofs.Covering.{raised_factor}
use Rattle.mk_judge.specs.declared.scale.Scale.{Scale}
use Rattle.mk_judge.specs.Powers.{StandsBeside}
use Rattle.mk_judge.specs.Cash.{IsOwned}
use Rattle.mk_enclose.specs.declared.enclosure.Enclosure.{Enclosure}
use Rattle.mk_enclose.specs.Enclosure.{HasGrade}
use Rattle.mk_judge_points.specs.inner.Ends.{AreCashEnds}
use Rattle.mk_judge.specs.declared.comparing.Compared.{Compared}
use Rattle.mk_judge.specs.Compared.{AreNear, LeavesOpen, Says, where_at_most, where_above}
use Rattle.mk_judge.specs.Judged.{Judges, both}
use Rattle.mk_judge.proofs.Nearness.{near_same_as, more_steps}
use Rattle.mk_judge.proofs.Judging.{judges_at_most, judges_above, judges_four, judges_as}

-- ---- the power of a factor beside powers of two

pub less_beside : (scale : Scale) (g m b z w : ℕ) → StandsBeside scale (g ^ b) z w → StandsBeside scale ((g * m) ^ b) (z * m ^ b) w
less_beside scale g m b z w h = record {
  positive = h.positive;
  same = let e : z * 2 ^ scale.owed * m ^ b ≡ g ^ b * 2 ^ scale.gained * w * m ^ b = ap (λ k. k * m ^ b) h.same in
      rw (mul-pow g m b) (omega (arith, e));
}

pub times_beside : (scale : Scale) (g m z w : ℕ) → StandsBeside scale g z w → StandsBeside scale (g * m) (z * m) w
times_beside scale g m z w h = record {
  positive = h.positive;
  same = let e : z * 2 ^ scale.owed * m ≡ g * 2 ^ scale.gained * w * m = ap (λ k. k * m) h.same in omega (arith, e);
}

pub idle_beside : (factor : Factor) (q : Fraction) (scale : Scale) → IsOwned factor q → factor.trades ≡ 0 → scale.gained ≡ 1 * paid_in factor.net
    → scale.owed ≡ 1 * (40 * factor.trades + taken_out factor.net) → StandsBeside scale 1 q.num q.den
idle_beside factor q scale owned none gained owed = record {
  positive = owned.held.stands.positive;
  same =
      let i : scale.gained ≡ paid_in factor.net = omega (arith, gained) in
      let o : scale.owed ≡ taken_out factor.net = omega (arith, owed, none) in
      rw (i, o) (let e = owned.held.idle none in omega (arith, e));
}

-- ---- the ends

module _ (q : Fraction) (b low high : ℕ) where
  -- the ends are those of an interval that covers the cash
  pub ends_cover : (small idle : Type 0) (parts near : ℕ) → 2 ≤ parts → parts ≤ near
      → (small → 2 ^ 59 ≤ near) → (idle → ⊥) → IsSafeFactor q → AreCashEnds near q b low high
      → CoversCash small idle parts q b low high
  ends_cover small idle parts near some wide small_wide busy safe h = by_cash (cash_exists q b safe)
    where
      both : AreNearCash near q b low high
      both = record { low_near = h.low_near; high_near = h.high_near }

      by_cash : (cash : ℕ) × IsCash q b cash → CoversCash small idle parts q b low high
      by_cash c =
          let from = power_less low (c.0 + 1) (q.den ^ b) (q.num ^ b) h.low_is (c.1).greatest in
          let to = power_less (c.0) (high + 1) (q.den ^ b) (q.num ^ b) (c.1).covered h.high_is in
          record {
            cash = c.0;
            is_cash = c.1;
            above = omega arith;
            below = omega arith;
            near = less_near q b low high parts near (omega arith) wide both;
            nearer = λ s. less_near q b low high (2 ^ 59) near (omega arith) (small_wide s) both;
            exact = λ i. absurd (busy i);
          }

  pub cover_ends : (small idle : Type 0) (parts near : ℕ) → AreNearCash near q b low high
      → CoversCash small idle parts q b low high → AreCashEnds near q b low high
  cover_ends small idle parts near is h =
      let from : 2 ^ low * q.den ^ b ≤ 2 ^ h.cash * q.den ^ b = mul-le-mul_right (q.den ^ b) (pow_le low h.cash h.above) in
      let to : 2 ^ (h.cash + 1) * q.den ^ b ≤ 2 ^ (high + 1) * q.den ^ b = mul-le-mul_right (q.den ^ b) (pow_le (h.cash + 1) (high + 1) (let l = h.below in omega (arith, l))) in
      record {
        low_is = le_trans from h.is_cash.covered;
        high_is = let g = h.is_cash.greatest in omega (arith, g, to);
        low_near = is.low_near;
        high_near = is.high_near;
      }

-- ---- a user without trades

module _ (q : Fraction) (b i o : ℕ) (safe : IsSafeFactor q) (same : q.num ^ b * 2 ^ o ≡ 2 ^ i * q.den ^ b) where
  idle_cash : (cash : ℕ) → cash + o ≡ i → IsCash q b cash
  idle_cash cash e = record { covered = le_of_mul-le-mul_right {k = 2 ^ o} covered (pow_pos o); greatest = lt_of_mul-lt-mul_right (2 ^ o) greatest }
    where
      bits : 2 ^ cash * 2 ^ o ≡ 2 ^ i
      bits = sym (pow-add 2 cash o) ∙ ap (λ k. 2 ^ k) e

      scaled : 2 ^ cash * 2 ^ o * q.den ^ b ≡ 2 ^ i * q.den ^ b
      scaled = ap (λ k. k * q.den ^ b) bits

      covered : 2 ^ cash * q.den ^ b * 2 ^ o ≤ q.num ^ b * 2 ^ o
      covered = omega (arith, scaled, same)

      greatest : q.num ^ b * 2 ^ o < 2 ^ (cash + 1) * q.den ^ b * 2 ^ o
      greatest =
          let d : 2 ^ (cash + 1) ≡ 2 ^ cash * 2 = pow-add 2 cash 1 in
          let some : 1 ≤ 2 ^ i * q.den ^ b = one-le-mul (pow_pos i) (one-le-pow b q.den safe.divides) in
          rw d (omega (arith, scaled, same, some))

  -- two numbers that are the cash are the same
  cash_is : (k m : ℕ) → IsCash q b k → IsCash q b m → k ≡ m
  cash_is k m is other =
      let a = power_less k (m + 1) (q.den ^ b) (q.num ^ b) is.covered other.greatest in
      let c = power_less m (k + 1) (q.den ^ b) (q.num ^ b) other.covered is.greatest in
      omega arith

  owed_less : o ≤ i
  owed_less = elim (cases_lt i o) [ inl more ↦ absurd (past more) | inr le ↦ le ]
    where
      past : i < o → ⊥
      past more =
          let a : 2 ^ (i + 1) ≤ 2 ^ o = pow_le (i + 1) o (omega arith) in
          let d : 2 ^ (i + 1) ≡ 2 ^ i * 2 = pow-add 2 i 1 in
          let n : q.den ^ b ≤ q.num ^ b = pow-le-pow_left safe.at_least_one b in
          let c : q.den ^ b * 2 ^ (i + 1) ≤ q.num ^ b * 2 ^ o = mul-le-mul n a in
          let some : 1 ≤ 2 ^ i * q.den ^ b = one-le-mul (pow_pos i) (one-le-pow b q.den safe.divides) in
          let e : q.den ^ b * (2 ^ i * 2) ≤ 2 ^ i * q.den ^ b = rw (← d, ← same) c in
          omega (arith, e, some)

  pub idle_covers : (small idle : Type 0) (parts low high : ℕ) → 2 ≤ parts → low + o ≡ i
      → high + o ≡ i → CoversCash small idle parts q b low high
  idle_covers small idle parts low high some low_is high_is =
      let e : high ≡ low = omega arith in
      let is = idle_cash low low_is in
      rw e (record {
        cash = low;
        is_cash = is;
        above = le_refl low;
        below = le_refl low;
        near = near_itself parts q b low (omega arith) is;
        nearer = λ _. near_itself (2 ^ 59) q b low (omega arith) is;
        exact = λ _. (refl, refl);
      })

  pub covers_idle : (small idle : Type 0) (parts low high : ℕ) → idle
      → CoversCash small idle parts q b low high → (low + o ≡ i) × (high + o ≡ i)
  covers_idle small idle parts low high none h =
      let less = owed_less in
      let f : i - o + o ≡ i = omega arith in
      let e = cash_is h.cash (i - o) h.is_cash (idle_cash (i - o) f) in
      let both = h.exact none in
      let l = both.0 in
      let r = both.1 in
      (omega arith, omega arith)

-- the equation of a user without trades, raised
pub idle_raised : (q : Fraction) (t i b : ℕ) → q.num * 2 ^ t ≡ 2 ^ i * q.den → q.num ^ b * 2 ^ (b * (40 * 0 + t)) ≡ 2 ^ (b * i) * q.den ^ b
idle_raised q t i b h =
    let one : 2 ^ t * (2 ^ 40) ^ 0 ≡ 2 ^ t = rw (pow-zero (2 ^ 40)) (omega arith) in
    let g : q.num * (2 ^ t * (2 ^ 40) ^ 0) ≡ 2 ^ i * 1 * q.den = rw one (omega (arith, h)) in
    let r = raised_factor q.num q.den 0 t i 1 b g in
    let o = one_power b in
    let k : 2 ^ (b * i) * 1 ^ b * q.den ^ b ≡ 2 ^ (b * i) * q.den ^ b = rw o (omega arith) in
    r ∙ k
  where
    one_power : (n : ℕ) → 1 ^ n ≡ 1
    one_power zero = pow-zero 1
    one_power (suc n) = let e = one_power n in rw (pow-suc 1 n, e) refl

pub idle_scaled : (factor : Factor) (q : Fraction) (b : ℕ) (scale : Scale) → IsOwned factor q → factor.trades ≡ 0 → scale.gained ≡ b * paid_in factor.net
    → scale.owed ≡ b * (40 * factor.trades + taken_out factor.net) → q.num ^ b * 2 ^ scale.owed ≡ 2 ^ scale.gained * q.den ^ b
idle_scaled factor q b scale owned none gained owed =
    rw (gained, owed, none) (idle_raised q (taken_out factor.net) (paid_in factor.net) b (owned.held.idle none))

-- ---- the four comparisons together

-- what is left open is near by so many steps
pub opened : (left right : Enclosure) (a b a' b' s t steps : ℕ) → a ≡ a' → b ≡ b' → HasGrade left s → HasGrade right t → s + t ≤ steps → LeavesOpen left right a b → AreNear a' b' steps
opened left right a b a' b' s t steps same same' graded graded' few h =
    more_steps a' b' (s + t) steps few (near_same_as a b (s + t) a' b' (s + t) same same' refl (h.near s t graded graded'))

pub judges_ends : (c d e f : Compared) (near : ℕ) (q : Fraction) (b low high : ℕ) (M N O T Near : Type 0)
    → Says c (2 ^ low * q.den ^ b) (q.num ^ b) M → Says d (2 ^ (high + 1) * q.den ^ b) (q.num ^ b) N
    → Says e (2 ^ (low + 1) * near ^ b * q.den ^ b) (q.num ^ b * (near - 1) ^ b) O → Says f (2 ^ high * (near - 1) ^ b * q.den ^ b) (q.num ^ b * near ^ b) T
    → (M ⊎ (N ⊎ (O ⊎ T)) → Near)
    → Judges (both (both (both (where_at_most c) (where_above d)) (where_above e)) (where_at_most f)) (AreCashEnds near q b low high) Near
judges_ends c d e f near q b low high M N O T Near p r s t known =
    judges_as (both (both (both (where_at_most c) (where_above d)) (where_above e)) (where_at_most f)) (P × Q × R × S) (AreCashEnds near q b low high) (M ⊎ (N ⊎ (O ⊎ T))) Near
    (λ all. record { low_is = all.0; high_is = all.1; low_near = all.2; high_near = all.3 }) (λ h. (h.low_is, h.high_is, h.low_near, h.high_near)) known
    (judges_four (where_at_most c) (where_above d) (where_above e) (where_at_most f) P Q R S M N O T
    (judges_at_most c _ _ M p) (judges_above d _ _ N r) (judges_above e _ _ O s) (judges_at_most f _ _ T t))
  where
    P : Type 0
    P = 2 ^ low * q.den ^ b ≤ q.num ^ b

    Q : Type 0
    Q = q.num ^ b < 2 ^ (high + 1) * q.den ^ b

    R : Type 0
    R = q.num ^ b * (near - 1) ^ b < 2 ^ (low + 1) * near ^ b * q.den ^ b

    S : Type 0
    S = 2 ^ high * (near - 1) ^ b * q.den ^ b ≤ q.num ^ b * near ^ b

-- ---- ranges

module _ (gain bits b i : ℕ) (top : gain ≤ two_to bits) (some : 1 ≤ b) (few : b * (i + (bits + 59)) < 2 ^ 50) where
  pub gain_power_in_range : IsInRange (gain ^ b)
  gain_power_in_range = power_in_range gain bits b top (omega (arith, few))

  all_bits : bits + 59 < 2 ^ 50
  all_bits = let l : 1 * (i + (bits + 59)) ≤ b * (i + (bits + 59)) = mul-le-mul_right (i + (bits + 59)) some in omega (arith, l, few)

  less_top : (m : ℕ) → m ≤ 2 ^ 59 → gain * m ≤ two_to (bits + 59)
  less_top m h = mul_at_most gain m bits 59 top (le_trans h (two_to-small 59 59 (omega arith)))

  pub gain_less_in_range : (m : ℕ) → m ≤ 2 ^ 59 → IsInRange (gain * m)
  gain_less_in_range m h = lt_of_le_of_lt (less_top m h) (two_to-lt (bits + 59) (2 ^ 50) all_bits)

  pub less_power_in_range : (m up : ℕ) → m ≤ 2 ^ 59 → IsLeastAbove up (gain * m) → IsInRange (up ^ b)
  less_power_in_range m up h least = power_in_range up (bits + 59) b (least_at_most up (gain * m) (bits + 59) least (less_top m h)) (omega (arith, few))

  pub part_power_in_range : (m : ℕ) → m ≤ 2 ^ 59 → IsInRange (m ^ b)
  part_power_in_range m h = power_in_range m 59 b (le_trans h (two_to-small 59 59 (omega arith))) (omega (arith, few))

pub part_below : (parts : ℕ) → parts ≤ 59 → 2 ^ parts - 1 ≤ 2 ^ 59
part_below parts h = let l : 2 ^ parts ≤ 2 ^ 59 = pow_le parts 59 h in omega (arith, l)

-- ---- whole bits

-- the most that is below the next bit
pub whole_most : (small idle : Type 0) (near : ℕ) (q : Fraction) (most : ℕ) → 2 ≤ near
    → 2 ^ most * q.den ≤ q.num → q.num < 2 ^ (most + 1) * q.den → IsMost small idle near q most
whole_most small idle near q most wide within past =
    record { within = within; nearly = nearly; exactly = λ _. past }
  where
    nearly : q.num * (2 * near - 1) < 2 ^ (most + 1) * (2 * near) * q.den
    nearly =
        let l : q.num * (2 * near - 1) < 2 ^ (most + 1) * q.den * (2 * near)
        = further q.num (2 * near - 1) (2 * near) (2 ^ (most + 1) * q.den) (omega arith)
        (omega arith) past in
        omega (arith, l)
