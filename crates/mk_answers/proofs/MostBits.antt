-- The whole bits of a factor at the lower end of its gain are the most that can be taken from it.
use Rattle.std.proofs.Common.{◌≡◌, ℕ, zero, suc, ◌+◌, ◌-◌, ◌*◌, ◌^◌, ◌<◌, ◌≤◌, sym, ap, subst, ◌∙◌, ⊎_elim, arith, le_trans}
use Rattle.std.proofs.lemmas.Bool.{cases_lt}
use Rattle.std.proofs.lemmas.Nat.{pow-add, pow_pos}
use Rattle.std.proofs.Math.Nat.{pow-zero, pow-suc, pow-le-pow_right, mul-le-mul_left, mul-le-mul_right, mul-lt-mul_of_pos_right, one-le-mul, one-le-pow, le_of_mul-le-mul_right, lt_of_mul-lt-mul_right}
use Rattle.mk_net.specs.Bounds.{sharpness, grade_room}
use Rattle.mk_exact.specs.Accepted.{Covers, IsMost}
use Rattle.mk_exact.specs.Factors.{Fraction, IsAtLeastOne}
use Rattle.mk_exact.proofs.Sharp.{at_room, sharp_enough}
use Rattle.mk_scaled.specs.Near.{IsNear, near_width}
use Rattle.mk_enclose.specs.declared.factor.Factor.{Factor}
use Rattle.mk_enclose.specs.Enclosure.{lower_of, upper_of, Encloses, IsExact, IsGradedWithin}
use Rattle.mk_enclose.specs.Factor.{paid_in, taken_out, StandsFor, BitsFit}
use Rattle.mk_answers.specs.Open.{IsFactorFor}

-- ---- over plain numbers: n / d is g with p for a factor above the line, and s below it

within : (k n d s p g low : ℕ) → n * s ≡ p * g * d → low ≤ g → k * s ≤ low * p → 1 ≤ s → k * d ≤ n
within k n d s p g low same below fit positive =
    let a : k * s * d ≤ low * p * d = mul-le-mul_right d fit in
    let b : low * (p * d) ≤ g * (p * d) = mul-le-mul_right (p * d) below in
    let c : k * d * s ≤ n * s = omega arith in
    le_of_mul-le-mul_right c positive

-- a number below the next power of two, by the ends that are near each other
nearly : (k n d s p g low high less more : ℕ) → n * s ≡ p * g * d → g ≤ high
    → high * less ≤ low * more → low * p < k * s → 1 ≤ d → 1 ≤ more
    → n * less < k * d * more
nearly k n d s p g low high less more same above near short positive some =
    let a : p * d * (g * less) ≤ p * d * (low * more) = mul-le-mul_left (p * d)
    (le_trans (mul-le-mul_right less above) near) in
    let b : low * p * (d * more) < k * s * (d * more) = mul-lt-mul_of_pos_right short
    (one-le-mul positive some) in
    let e : n * s * less ≡ p * g * d * less = ap (λ z. z * less) same in
    let c : n * less * s < k * d * more * s = omega arith in
    lt_of_mul-lt-mul_right s c

exactly : (k n d s p g low : ℕ) → n * s ≡ p * g * d → g ≡ low → low * p < k * s → 1 ≤ d → n < k * d
exactly k n d s p g low same exact short positive =
    let a : low * p * d < k * s * d = mul-lt-mul_of_pos_right short positive in
    let b : p * g * d ≡ p * low * d = ap (λ z. p * z * d) exact in
    let c : n * s < k * d * s = omega arith in
    lt_of_mul-lt-mul_right s c

-- a grade for which there is room leaves the ends within one part in twice the sharpness
usual_thin : (low high c : ℕ) → 2 ^ 60 - 2 ^ 17 ≤ c → high * c ≤ low * 2 ^ 60
    → high * (2 * 2 ^ 42 - 1) ≤ low * (2 * 2 ^ 42)
usual_thin low high c h l =
    let m : high * (2 ^ 60 - 2 ^ 17) ≤ high * c = mul-le-mul_left high h in omega arith

large_thin : (low high c : ℕ) → 2 ^ 60 - (2 ^ 20 - 1) ≤ c → high * c ≤ low * 2 ^ 60
    → high * (2 * 2 ^ 39 - 1) ≤ low * (2 * 2 ^ 39)
large_thin low high c h l =
    let m : high * (2 ^ 60 - (2 ^ 20 - 1)) ≤ high * c = mul-le-mul_left high h in omega arith

thin : (most_trades : ℕ) (low high c : ℕ) → 2 ^ 60 - grade_room most_trades ≤ c
    → high * c ≤ low * 2 ^ 60
    → high * (2 * sharpness most_trades - 1) ≤ low * (2 * sharpness most_trades)
thin = at_room (λ (near room : ℕ). (low high c : ℕ) → 2 ^ 60 - room ≤ c → high * c ≤ low * 2 ^ 60
    → high * (2 * near - 1) ≤ low * (2 * near)) usual_thin large_thin

thin_ends : (most_trades low high g : ℕ) → g ≤ grade_room most_trades → IsNear low high g
    → high * (2 * sharpness most_trades - 1) ≤ low * (2 * sharpness most_trades)
thin_ends most_trades low high g h l =
    thin most_trades low high (2 ^ 60 - g) (omega arith) (near_width low high g l)

-- where the ends are such and one is between them, both are one
one_alone : (near low high : ℕ) → 2 ≤ near → 1 ≤ low → low ≤ 1 → 1 ≤ high
    → high * (2 * near - 1) ≤ low * (2 * near) → low ≡ high
one_alone near low high wide some few most close = at high most close
  where
    one : low ≡ 1
    one = omega arith

    at : (n : ℕ) → 1 ≤ n → n * (2 * near - 1) ≤ low * (2 * near) → low ≡ n
    at zero most close = absurd (omega arith)
    at (suc zero) most close = one
    at (suc (suc n)) most close =
        let top : 2 * (2 * near - 1) ≤ suc (suc n) * (2 * near - 1) =
        mul-le-mul_right (2 * near - 1)
        (omega arith) in
        let less : suc (suc n) * (2 * near - 1) ≤ 1 * (2 * near) = rw one at close in
        absurd (omega arith)

-- ---- over factors

power_of_power : (m b : ℕ) → (2 ^ m) ^ b ≡ 2 ^ (m * b)
power_of_power m zero = let e : 0 ≡ m * 0 = omega arith in pow-zero (2 ^ m) ∙ sym (pow-zero 2) ∙ ap (λ k. 2 ^ k) e
power_of_power m (suc b) =
    let e : m * b + m ≡ m * suc b = omega arith in
    pow-suc (2 ^ m) b ∙ ap (λ k. k * 2 ^ m) (power_of_power m b) ∙ sym (pow-add 2 (m * b) m) ∙ ap (λ k. 2 ^ k) e

-- what stands below the line
owed : Factor → ℕ
owed f = 2 ^ taken_out f.net * (2 ^ 40) ^ f.trades

owed_pos : (f : Factor) → 1 ≤ owed f
unfolding owed
owed_pos f = one-le-mul (pow_pos (taken_out f.net)) (one-le-pow f.trades (2 ^ 40) (omega arith))

split : (k : ℕ) (f : Factor) → 2 ^ (k + 40 * f.trades + taken_out f.net) ≡ 2 ^ k * owed f
unfolding owed
split k f =
    let e : k + 40 * f.trades + taken_out f.net ≡ k + (taken_out f.net + 40 * f.trades) = omega arith in
    ap (λ i. 2 ^ i) e ∙ pow-add 2 k (taken_out f.net + 40 * f.trades)
    ∙ ap (λ i. 2 ^ k * i) (pow-add 2 (taken_out f.net) (40 * f.trades) ∙ ap (λ i. 2 ^ taken_out f.net * i) (sym (power_of_power 40 f.trades)))

-- what `whole_bits` promises
pub record AreBitsOf (f : Factor) (bits : ℕ) : Type 0 where
  pub fits : 0 < bits → BitsFit f bits
  pub greatest : (k : ℕ) → BitsFit f k → k ≤ bits

module _ (f : Factor) (bits : ℕ) (are : AreBitsOf f bits) (q : Fraction) (stands : StandsFor f q.num q.den) (least : IsAtLeastOne q) where
  same : q.num * owed f ≡ 2 ^ paid_in f.net * stands.gain * q.den
  unfolding owed
  same = stands.same

  bits_fit : (k : ℕ) → BitsFit f k → Covers q k
  bits_fit k fit =
      within (2 ^ k) q.num q.den (owed f) (2 ^ paid_in f.net) stands.gain (lower_of f.gain) same stands.encloses.lower
      (subst (λ n. n ≤ lower_of f.gain * 2 ^ paid_in f.net) (split k f) fit.fit) (owed_pos f)

  pub covered : Covers q bits
  covered = at bits are.fits
    where
      at : (k : ℕ) → (0 < k → BitsFit f k) → Covers q k
      at zero fits = let one : 2 ^ 0 ≡ 1 = pow-zero 2 in subst (λ n. n * q.den ≤ q.num) (sym one) (omega (arith, least))
      at (suc k) fits = bits_fit (suc k) (fits (omega arith))

  pub fewer_covered : (k : ℕ) → k ≤ bits → Covers q k
  fewer_covered k l = let p : 2 ^ k ≤ 2 ^ bits = pow-le-pow_right (omega arith) l in le_trans (mul-le-mul_right q.den p) covered

  -- one bit more is more than the lower end
  short : lower_of f.gain * 2 ^ paid_in f.net < 2 ^ (bits + 1) * owed f
  short =
      ⊎_elim (λ less. less)
      (λ more. absurd (let l = are.greatest (bits + 1) (record { fit = subst (λ n. n ≤ lower_of f.gain * 2 ^ paid_in f.net) (sym (split (bits + 1) f)) more }) in omega arith))
      (cases_lt (lower_of f.gain * 2 ^ paid_in f.net) (2 ^ (bits + 1) * owed f))

  narrow : (most_trades : ℕ) → IsGradedWithin f.gain (grade_room most_trades)
      → upper_of f.gain * (2 * sharpness most_trades - 1)
      ≤ lower_of f.gain * (2 * sharpness most_trades)
  narrow most_trades graded = thin_ends most_trades (lower_of f.gain) (upper_of f.gain) graded.grade
      graded.small graded.has.near

  close_to : (more : ℕ) → 1 ≤ more
      → upper_of f.gain * (more - 1) ≤ lower_of f.gain * more
      → q.num * (more - 1) < 2 ^ (bits + 1) * more * q.den
  close_to more some thin =
      let l = nearly (2 ^ (bits + 1)) q.num q.den (owed f) (2 ^ paid_in f.net) stands.gain
      (lower_of f.gain) (upper_of f.gain) (more - 1) more
      same stands.encloses.upper thin short stands.positive some in
      omega (arith, l)

  near : (most_trades : ℕ) → IsGradedWithin f.gain (grade_room most_trades)
      → q.num * (2 * sharpness most_trades - 1)
      < 2 ^ (bits + 1) * (2 * sharpness most_trades) * q.den
  near most_trades graded =
      let wide = sharp_enough most_trades in
      close_to (2 * sharpness most_trades) (omega (arith, wide)) (narrow most_trades graded)

  next : IsExact f.gain → q.num < 2 ^ (bits + 1) * q.den
  next exact = exactly (2 ^ (bits + 1)) q.num q.den (owed f) (2 ^ paid_in f.net) stands.gain (lower_of f.gain) same
      (omega (arith, stands.encloses.lower, stands.encloses.upper, exact.same)) short stands.positive

  -- a gain that can be one is one
  one_exact : (most_trades : ℕ) → IsGradedWithin f.gain (grade_room most_trades)
      → Encloses f.gain 1 → IsExact f.gain
  one_exact most_trades graded one = record {
    same = one_alone (sharpness most_trades) (lower_of f.gain) (upper_of f.gain)
        (sharp_enough most_trades) f.gain.positive one.lower one.upper
        (narrow most_trades graded);
  }

  pub is_most : (most_trades : ℕ) (small : Type 0) → IsGradedWithin f.gain (grade_room most_trades)
      → (small → IsExact f.gain) → IsMost small (Encloses f.gain 1) (sharpness most_trades) q bits
  is_most most_trades small graded exact = record {
    within = covered;
    nearly = near most_trades graded;
    exactly = λ either. next (⊎_elim exact (one_exact most_trades graded) either);
  }

pub most_for : (f : Factor) (bits : ℕ) → AreBitsOf f bits → (most_trades : ℕ) (small : Type 0)
    (q : Fraction) → IsFactorFor f most_trades small q → IsAtLeastOne q
    → IsMost small (Encloses f.gain 1) (sharpness most_trades) q bits
most_for f bits are most_trades small q for least =
    is_most f bits are q for.stands least most_trades small for.graded for.exact
