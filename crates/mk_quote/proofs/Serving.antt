-- What serves by the bounds is fair and solvent, and what is wanted serves.
use Rattle.std.proofs.Common.{◌≡◌, refl, ℕ, zero, suc, ◌+◌, ◌-◌, ◌*◌, ◌/◌, ◌^◌, ◌<◌, ◌≤◌, ◌↔◌, sym, ap, ◌∙◌, arith}
use Rattle.std.proofs.lemmas.Nat.{pow-add, pow_pos}
use Rattle.std.proofs.Math.Nat.{pow-zero, pow-suc, div-mul-le_self, lt-div-mul-add, mul-le-mul_left, mul-le-mul_right, one-le-mul, one-le-pow, le_of_mul-le-mul_right, lt_of_mul-lt-mul_right}
use Rattle.mk_net.specs.Bounds.{number_limit, million}
use Rattle.mk_states.specs.Ratios.{unit}
use Rattle.mk_exact.specs.Prices.{IsSolvent}
use Rattle.mk_exact.specs.Limits.{Side, IsFairAndSolvent, IsWanted, IsFloorSolvent}
use Rattle.mk_enclose.specs.declared.enclosure.Enclosure.{Enclosure}
use Rattle.mk_enclose.specs.declared.factor.Factor.{Factor}
use Rattle.mk_enclose.specs.Enclosure.{lower_of, upper_of, IsGradedWithin, widest_grade}
use Rattle.mk_enclose.specs.Factor.{paid_in, taken_out}
use Rattle.mk_enclose.specs.inner.Widths.{narrow_ends}
use Rattle.mk_quote.specs.declared.side.SideBounds.{SideBounds}
use Rattle.mk_quote.specs.Sides.{AreBoundsOf, AreGraded, AreExact, ratio_for, Bears, Serves}

fewer : (a b d : ℕ) → a * d < b * d → a < b
fewer a b d h = lt_of_mul-lt-mul_right d h

-- ---- the price, over plain numbers

-- The ends of a part and of a whole that it belongs to, each within one part in 2^40, and the floor F of the units.
record AreEnds (part_low part part_high whole_low whole whole_high : ℕ) : Type 0 where
  pub part_below : part_low ≤ part
  pub part_above : part ≤ part_high
  pub whole_below : whole_low ≤ whole
  pub whole_above : whole ≤ whole_high
  pub positive : 1 ≤ part_low
  pub share : part ≤ whole
  pub part_narrow : part_high * 2 ^ 40 ≤ part_low * (2 ^ 40 + 1)
  pub whole_narrow : whole_high * 2 ^ 40 ≤ whole_low * (2 ^ 40 + 1)

module _ (part_low part part_high whole_low whole whole_high : ℕ) (ends : AreEnds part_low part part_high whole_low whole whole_high) where
  part_close : part_high * 2 ^ 40 ≤ part * (2 ^ 40 + 1)
  part_close = let b = ends.part_below in let n = ends.part_narrow in omega arith

  whole_close : whole * 2 ^ 40 ≤ whole_low * (2 ^ 40 + 1)
  whole_close = let b = ends.whole_above in let n = ends.whole_narrow in omega arith

  below : (F X : ℕ) → F * (part_high * million) ≤ whole_low * (X * unit) → F * million * part ≤ X * unit * whole
  below F X h =
      let p : F * million * part ≤ F * million * part_high = mul-le-mul_left (F * million) ends.part_above in
      let w : X * unit * whole_low ≤ X * unit * whole = mul-le-mul_left (X * unit) ends.whole_below in
      omega arith

  close : (F X : ℕ) → whole_low * (X * unit) < F * (part_high * million) + part_high * million → X * unit * whole * (2 ^ 30 - 1) < (F + 1) * million * part * 2 ^ 30
  close F X h =
      let w : X * (whole * 2 ^ 40) ≤ X * (whole_low * (2 ^ 40 + 1)) = mul-le-mul_left X whole_close in
      let p : (F + 1) * (part_high * 2 ^ 40) ≤ (F + 1) * (part * (2 ^ 40 + 1)) = mul-le-mul_left (F + 1) part_close in
      omega arith

  large : (F X : ℕ) → 1 ≤ X → whole_low * (X * unit) < F * (part_high * million) + part_high * million → 2 ^ 20 ≤ F
  large F X some h =
      let c = part_close in
      let w = whole_close in
      let s = ends.share in
      let b = ends.positive in
      let a = ends.part_above in
      let e = ends.part_below in
      let one : 1 * whole_low ≤ X * whole_low = mul-le-mul_right whole_low some in
      let l : 2 ^ 20 < F + 1 = fewer (2 ^ 20) (F + 1) (part_high * million) (omega arith) in
      omega arith

  wanted_fits : (F X : ℕ) → F * (part_high * million) ≤ whole_low * (X * unit) → X * whole ≤ 2 ^ 22 * million * part → F < number_limit
  wanted_fits F X h far =
      let b = ends.positive in
      let a = ends.part_above in
      let e = ends.part_below in
      let w : X * unit * whole_low ≤ X * unit * whole = mul-le-mul_left (X * unit) ends.whole_below in
      fewer F number_limit (part_high * million) (omega arith)

-- ---- the factor, over plain numbers: P multiplies a gain, and D divides it

solvent_if_borne : (F num den gain low P D : ℕ) → 1 ≤ D → low ≤ gain → num * D ≡ P * gain * den → unit * D ≤ F * low * P → unit * den ≤ F * num
solvent_if_borne F num den gain low P D positive below same borne =
    let l : F * P * den * low ≤ F * P * den * gain = mul-le-mul_left (F * P * den) below in
    let b : unit * D * den ≤ F * low * P * den = mul-le-mul_right den borne in
    let e : F * (num * D) ≡ F * (P * gain * den) = ap (λ n. F * n) same in
    let w : unit * den * D ≤ F * num * D = omega arith in
    le_of_mul-le-mul_right w positive

borne_if_solvent : (F num den gain P D : ℕ) → 1 ≤ den → num * D ≡ P * gain * den → unit * den ≤ F * num → unit * D ≤ F * gain * P
borne_if_solvent F num den gain P D positive same solvent =
    let b : unit * den * D ≤ F * num * D = mul-le-mul_right D solvent in
    let e : F * (num * D) ≡ F * (P * gain * den) = ap (λ n. F * n) same in
    let w : unit * D * den ≤ F * gain * P * den = omega arith in
    le_of_mul-le-mul_right w positive

-- A margin of one part in 2^19 is more than the floor of the units and the widths of the ends take away.
borne_if_wanted : (F X part whole num den gain low high P D : ℕ) → 1 ≤ part → 1 ≤ den → 2 ^ 20 ≤ F → gain ≤ high → high * 2 ^ 40 ≤ low * (2 ^ 40 + 1)
    → X * unit * whole * (2 ^ 30 - 1) < (F + 1) * million * part * 2 ^ 30 → den * million * part * (2 ^ 19 + 1) ≤ num * X * whole * 2 ^ 19
    → num * D ≡ P * gain * den → unit * D ≤ F * low * P
borne_if_wanted F X part whole num den gain low high P D some divides large above narrow close margin same =
    let m : den * million * part * (2 ^ 19 + 1) * D ≤ num * X * whole * 2 ^ 19 * D = mul-le-mul_right D margin in
    let e : num * D * (X * whole) ≡ P * gain * den * (X * whole) = ap (λ n. n * (X * whole)) same in
    let a : million * part * (2 ^ 19 + 1) * D * den ≤ P * gain * X * whole * 2 ^ 19 * den = omega arith in
    let b : million * part * (2 ^ 19 + 1) * D ≤ P * gain * X * whole * 2 ^ 19 = le_of_mul-le-mul_right a divides in
    let p : P * gain * (X * unit * whole * (2 ^ 30 - 1)) ≤ P * gain * ((F + 1) * million * part * 2 ^ 30) = mul-le-mul_left (P * gain) (omega arith) in
    let f : unit * D * ((2 ^ 30 - 1) * (2 ^ 19 + 1)) * part ≤ P * gain * (F + 1) * 2 ^ 49 * part = omega arith in
    let g : unit * D * ((2 ^ 30 - 1) * (2 ^ 19 + 1)) ≤ P * gain * (F + 1) * 2 ^ 49 = le_of_mul-le-mul_right f some in
    let n : gain * 2 ^ 40 ≤ low * (2 ^ 40 + 1) = omega arith in
    let h : P * (F + 1) * (gain * 2 ^ 40) ≤ P * (F + 1) * (low * (2 ^ 40 + 1)) = mul-le-mul_left (P * (F + 1)) n in
    let j : P * low * 2 ^ 20 ≤ P * low * F = mul-le-mul_left (P * low) large in
    omega arith

power_of_power : (m b : ℕ) → (2 ^ m) ^ b ≡ 2 ^ (m * b)
power_of_power m zero = let e : 0 ≡ m * 0 = omega arith in pow-zero (2 ^ m) ∙ sym (pow-zero 2) ∙ ap (λ k. 2 ^ k) e
power_of_power m (suc b) =
    let e : m * b + m ≡ m * suc b = omega arith in
    pow-suc (2 ^ m) b ∙ ap (λ k. k * 2 ^ m) (power_of_power m b) ∙ sym (pow-add 2 (m * b) m) ∙ ap (λ k. 2 ^ k) e

-- what one more trade has to reach: one unit for each trade with it, and the bits taken out
units_owed : (trades taken : ℕ) → 2 ^ (40 * (trades + 1) + taken) ≡ unit * (2 ^ taken * (2 ^ 40) ^ trades)
units_owed trades taken =
    let s : 40 * (trades + 1) + taken ≡ 40 + (taken + 40 * trades) = omega arith in
    ap (λ k. 2 ^ k) s ∙ pow-add 2 40 (taken + 40 * trades) ∙ ap (λ k. unit * k) (pow-add 2 taken (40 * trades) ∙ ap (λ k. 2 ^ taken * k) (sym (power_of_power 40 trades)))

divided : (factor : Factor) → 1 ≤ 2 ^ taken_out factor.net * (2 ^ 40) ^ factor.trades
divided factor = one-le-mul (pow_pos (taken_out factor.net)) (one-le-pow factor.trades (2 ^ 40) (omega arith))

narrow : (e : Enclosure) → IsGradedWithin e widest_grade
    → upper_of e * 2 ^ 40 ≤ lower_of e * (2 ^ 40 + 1)
narrow e graded =
    narrow_ends (lower_of e) (upper_of e) graded.grade graded.small graded.has.near

ends_of : (bounds : SideBounds) (side : Side) → AreBoundsOf bounds side → AreGraded bounds
    → AreEnds (lower_of bounds.part) side.price.num (upper_of bounds.part) (lower_of bounds.whole) side.price.den (upper_of bounds.whole)
ends_of bounds side of graded = record {
  part_below = of.part.lower;
  part_above = of.part.upper;
  whole_below = of.whole.lower;
  whole_above = of.whole.upper;
  positive = bounds.part.positive;
  share = of.share;
  part_narrow = narrow bounds.part graded.part;
  whole_narrow = narrow bounds.whole graded.whole;
}

module _ (bounds : SideBounds) where
  divisor : 1 ≤ upper_of bounds.part * million
  divisor = let p = bounds.part.positive in let o = bounds.part.ordered in omega arith

  floor_below : (X : ℕ) → ratio_for bounds X * (upper_of bounds.part * million) ≤ lower_of bounds.whole * (X * unit)
  floor_below X = div-mul-le_self (lower_of bounds.whole * (X * unit)) (upper_of bounds.part * million)

  floor_above : (X : ℕ) → lower_of bounds.whole * (X * unit) < ratio_for bounds X * (upper_of bounds.part * million) + upper_of bounds.part * million
  floor_above X = lt-div-mul-add divisor

  module _ (side : Side) (of : AreBoundsOf bounds side) where
    exact_floor : AreExact bounds → (X : ℕ) → ratio_for bounds X ≡ X * unit * side.price.den / (million * side.price.num)
    exact_floor exact X = quotients _ _ _ _ numerator denominator
      where
        quotients : (a b c d : ℕ) → a ≡ c → b ≡ d → a / b ≡ c / d
        quotients a b c d e f = rw (e, f) refl

        numerator : lower_of bounds.whole * (X * unit) ≡ X * unit * side.price.den
        numerator =
            let l = of.whole.lower in
            let u = of.whole.upper in
            let s = exact.whole.same in
            let e : lower_of bounds.whole ≡ side.price.den = omega arith in
            rw e (omega arith)

        denominator : upper_of bounds.part * million ≡ million * side.price.num
        denominator =
            let l = of.part.lower in
            let u = of.part.upper in
            let s = exact.part.same in
            omega arith

    solvent : (F : ℕ) → Bears bounds.factor F → IsSolvent F side.least
    solvent F borne = solvent_if_borne F side.least.num side.least.den of.least.gain (lower_of bounds.factor.gain) (2 ^ paid_in bounds.factor.net) _ (divided bounds.factor) of.least.encloses.lower of.least.same (rw (← units_owed bounds.factor.trades (taken_out bounds.factor.net)) borne.bears)

    -- what serves is fair and solvent
    pub served_is_fair : AreGraded bounds → (X : ℕ) → 1 ≤ X → Serves bounds X → IsFairAndSolvent (AreExact bounds) side X (ratio_for bounds X)
    served_is_fair graded X some serves =
        let F = ratio_for bounds X in
        let ends = ends_of bounds side of graded in
        let big = large _ _ _ _ _ _ ends F X some (floor_above X) in
        record {
          fair = record {
            positive = omega arith;
            fits = serves.fits;
            not_above = below _ _ _ _ _ _ ends F X (floor_below X);
            close = close _ _ _ _ _ _ ends F X (floor_above X);
            floor = λ exact. exactly exact;
          };
          solvent = solvent F serves.borne;
        }
      where
        exactly : AreExact bounds → X * unit * side.price.den < (ratio_for bounds X + 1) * million * side.price.num
        exactly exact =
            let a = floor_above X in
            let p = of.part.lower in
            let q = exact.part.same in
            let r = of.whole.upper in
            let s = exact.whole.same in
            let u = of.part.upper in
            let w : X * unit * side.price.den ≤ X * unit * lower_of bounds.whole = mul-le-mul_left (X * unit) (omega arith) in
            let v : (ratio_for bounds X + 1) * million * upper_of bounds.part ≤ (ratio_for bounds X + 1) * million * side.price.num = mul-le-mul_left ((ratio_for bounds X + 1) * million) (omega arith) in
            omega arith

    -- what is wanted serves
    pub wanted_serves : AreGraded bounds → (X : ℕ) → 1 ≤ X → IsWanted side X → Serves bounds X
    wanted_serves graded X some wanted =
        let F = ratio_for bounds X in
        let ends = ends_of bounds side of graded in
        let big = large _ _ _ _ _ _ ends F X some (floor_above X) in
        let p = ends.positive in
        let q = ends.part_below in
        record {
          fits = wanted_fits _ _ _ _ _ _ ends F X (floor_below X) wanted.not_far;
          borne = record {
            bears = rw (units_owed bounds.factor.trades (taken_out bounds.factor.net))
                (borne_if_wanted F X side.price.num side.price.den side.least.num side.least.den of.least.gain (lower_of bounds.factor.gain) (upper_of bounds.factor.gain) (2 ^ paid_in bounds.factor.net) _ (omega arith) of.least.positive big of.least.encloses.upper (narrow bounds.factor.gain graded.gain) (close _ _ _ _ _ _ ends F X (floor_above X)) wanted.above_one of.least.same);
          };
        }

    -- where nothing was rounded, what serves is what the exact floor serves
    pub exactly_serves : AreExact bounds → (X : ℕ) → Serves bounds X ↔ IsFloorSolvent side X
    exactly_serves exact X = (forth, back)
      where
        gain_same : of.least.gain ≡ lower_of bounds.factor.gain
        gain_same = let l = of.least.encloses.lower in let u = of.least.encloses.upper in let s = exact.gain.same in omega arith

        forth : Serves bounds X → IsFloorSolvent side X
        forth serves = rw (← exact_floor exact X) (serves.fits, solvent (ratio_for bounds X) serves.borne)

        back : IsFloorSolvent side X → Serves bounds X
        back floor =
            let f : (ratio_for bounds X < number_limit) × IsSolvent (ratio_for bounds X) side.least = rw (exact_floor exact X) floor in
            record {
              fits = f.0;
              borne = record {
                bears = rw (units_owed bounds.factor.trades (taken_out bounds.factor.net), ← gain_same)
                    (borne_if_solvent (ratio_for bounds X) side.least.num side.least.den of.least.gain (2 ^ paid_in bounds.factor.net) _ of.least.positive of.least.same (f.1));
              };
            }
