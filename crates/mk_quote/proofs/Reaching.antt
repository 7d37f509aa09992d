-- What the units for a share reach, they reach for every greater share.
use Rattle.std.proofs.Common.{◌≡◌, ℕ, ◌+◌, ◌-◌, ◌*◌, ◌/◌, ◌^◌, ◌<◌, ◌≤◌, ◌↔◌, min, Option, Decides, arith, le_refl, le_trans, lt_of_le_of_lt}
use Rattle.std.proofs.lemmas.Bool.{leb-true, le-leb}
use Rattle.std.proofs.lemmas.Bool.Decides.{Decides-and, Decides-like, Decides-ltb}
use Rattle.std.proofs.Math.Nat.{div-mul-le_self, lt-div-mul-add, mul-le-mul_left, mul-le-mul_right, lt_of_mul-lt-mul_right}
use Rattle.mk_net.specs.Bounds.{number_limit, million}
use Rattle.mk_states.specs.Ratios.{unit}
use Rattle.mk_exact.specs.Limits.{Inside, IsWithinRange}
use Rattle.mk_enclose.specs.declared.factor.Factor.{Factor}
use Rattle.mk_enclose.specs.Enclosure.{lower_of}
use Rattle.mk_enclose.specs.Factor.{paid_in}
use Rattle.mk_quote.specs.declared.side.SideBounds.{SideBounds}
use Rattle.mk_quote.specs.declared.bounds.Bounds.{Bounds}
use Rattle.mk_quote.specs.declared.interval.Bound.{Bound}
use Rattle.mk_quote.specs.declared.interval.Bound.TheVariants.{Borne, TooMany}
use Rattle.mk_quote.specs.Sides.{ratio_for, Bears, Serves, is_served, interval_for}
use Rattle.mk_quote.specs.Bounds.{hit_side, miss_side, Allows, Limit, is_allowed, limits_for}
use Rattle.mk_quote.specs.inner.Reached.{Reaches}
use Rattle.mk_quote.proofs.Spanning.{span_in_range, span_holds, is_span}

-- quotients rise with what is divided
quotient_rises : (a b d : ℕ) → 1 ≤ d → a ≤ b → a / d ≤ b / d
quotient_rises a b d p q =
    let least : a / d * d ≤ a = div-mul-le_self a d in
    let most : b < b / d * d + d = lt-div-mul-add p in
    let l : a / d < b / d + 1 = lt_of_mul-lt-mul_right d (omega arith) in
    omega arith

ratio_rises : (bounds : SideBounds) (X Y : ℕ) → X ≤ Y → ratio_for bounds X ≤ ratio_for bounds Y
ratio_rises bounds X Y h =
    let p = bounds.part.positive in
    let o = bounds.part.ordered in
    quotient_rises _ _ _ (omega arith) (mul-le-mul_left (lower_of bounds.whole) (mul-le-mul_right unit h))

more_are_borne : (factor : Factor) (r s : ℕ) → r ≤ s → Bears factor r → Bears factor s
more_are_borne factor r s h borne = record {
  bears = le_trans borne.bears (mul-le-mul_right (2 ^ paid_in factor.net) (mul-le-mul_right (lower_of factor.gain) h));
}

pub reaches_later : (bounds : SideBounds) (bound : Bound) (X Y : ℕ) → X ≤ Y → Reaches bounds bound X → Reaches bounds bound Y
reaches_later bounds Borne X Y h reached =
    let r = ratio_rises bounds X Y h in
    more_are_borne bounds.factor (min number_limit (ratio_for bounds X)) (min number_limit (ratio_for bounds Y)) (omega arith) reached
reaches_later bounds TooMany X Y h reached = le_trans reached (ratio_rises bounds X Y h)

-- ---- what serves, serves between

served_decides : (bounds : SideBounds) (X : ℕ) → Decides (is_served bounds X) (Serves bounds X)
served_decides bounds X =
    Decides-like _ (λ h. record { fits = h.0; borne = record { bears = h.1 } }) (λ s. (s.fits, s.borne.bears))
    (Decides-and _ _ (Decides-ltb (ratio_for bounds X) number_limit) (leb-true _ _, le-leb _ _))

serves_between : (bounds : SideBounds) (X Y Z : ℕ) → X ≤ Y → Y ≤ Z → Serves bounds X → Serves bounds Z → Serves bounds Y
serves_between bounds X Y Z p q low high = record {
  fits = lt_of_le_of_lt (ratio_rises bounds Y Z q) high.fits;
  borne = more_are_borne bounds.factor (ratio_for bounds X) (ratio_for bounds Y) (ratio_rises bounds X Y p) low.borne;
}

pub interval_in_range : (bounds : SideBounds) → IsWithinRange (interval_for bounds)
interval_in_range bounds = span_in_range (is_served bounds) (Serves bounds) (served_decides bounds) (serves_between bounds) 999999 (le_refl 999999)

pub interval_serves : (bounds : SideBounds) (X : ℕ) → 1 ≤ X → X ≤ 999999 → Inside (interval_for bounds) X ↔ Serves bounds X
interval_serves bounds X p q = span_holds (is_served bounds) (Serves bounds) (served_decides bounds) (serves_between bounds) 999999 X p q

pub is_interval : (bounds : SideBounds) (o : Option (ℕ × ℕ)) → IsWithinRange o → ((X : ℕ) → 1 ≤ X → X ≤ 999999 → Inside o X ↔ Serves bounds X) → o ≡ interval_for bounds
is_interval bounds o range serves = is_span (is_served bounds) (Serves bounds) (served_decides bounds) (serves_between bounds) o range serves

allowed_decides : (bounds : Bounds) (X : ℕ) → Decides (is_allowed bounds X) (Allows bounds X)
allowed_decides bounds X = Decides-and _ _ (served_decides (hit_side bounds) X) (served_decides (miss_side bounds) (million - X))

allows_between : (bounds : Bounds) (X Y Z : ℕ) → X ≤ Y → Y ≤ Z → Allows bounds X → Allows bounds Z → Allows bounds Y
allows_between bounds X Y Z p q low high = (
  serves_between (hit_side bounds) X Y Z p q low.0 high.0,
  serves_between (miss_side bounds) (million - Z) (million - Y) (million - X) (omega arith) (omega arith) high.1 low.1,
)

pub limits_allow : (bounds : Bounds) (X : ℕ) → 1 ≤ X → X ≤ 999999 → Inside (limits_for bounds) X ↔ Allows bounds X
limits_allow bounds X p q = span_holds (is_allowed bounds) (Allows bounds) (allowed_decides bounds) (allows_between bounds) 999999 X p q

pub are_limits : (bounds : Bounds) (o : Option (ℕ × ℕ)) → IsWithinRange o → Limit bounds o → o ≡ limits_for bounds
are_limits bounds o range limit = is_span (is_allowed bounds) (Allows bounds) (allowed_decides bounds) (allows_between bounds) o range limit
