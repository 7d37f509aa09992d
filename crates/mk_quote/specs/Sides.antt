-- One side of a question by bounds: the units that an edit of it trades for, and whether they serve.
use Rattle.std.specs.Prelude.{ℕ, ◌+◌, ◌*◌, ◌/◌, ◌^◌, ◌<◌, ◌≤◌, Bool, ltb, leb, ◌&&◌, Option}
use Rattle.mk_net.specs.Bounds.{number_limit, million, max_share}
use Rattle.mk_states.specs.Ratios.{unit}
use Rattle.mk_exact.specs.Limits.{Side}
use Rattle.mk_enclose.specs.declared.factor.Factor.{Factor}
use Rattle.mk_enclose.specs.Enclosure.{lower_of, upper_of, Encloses, IsExact, IsGradedWithin}
use Rattle.mk_enclose.specs.Enclosure.{widest_grade}
use Rattle.mk_enclose.specs.Factor.{paid_in, taken_out, StandsFor}
use Rattle.mk_quote.specs.declared.side.SideBounds.{SideBounds}
use Rattle.mk_quote.specs.Spans.{span}

-- the bounds enclose the price and the least factor of a side, and its price is at most one
pub record AreBoundsOf (bounds : SideBounds) (side : Side) : Type 0 where
  pub part : Encloses bounds.part side.price.num
  pub whole : Encloses bounds.whole side.price.den
  pub share : side.price.num ≤ side.price.den
  pub least : StandsFor bounds.factor side.least.num side.least.den

-- the ends of each enclosure are near each other, within one part in 2 ^ 40
pub record AreGraded (bounds : SideBounds) : Type 0 where
  pub part : IsGradedWithin bounds.part widest_grade
  pub whole : IsGradedWithin bounds.whole widest_grade
  pub gain : IsGradedWithin bounds.factor.gain widest_grade

-- nothing was rounded on this side
pub record AreExact (bounds : SideBounds) : Type 0 where
  pub part : IsExact bounds.part
  pub whole : IsExact bounds.whole
  pub gain : IsExact bounds.factor.gain

-- the floor of the units that take the price to X parts in a million, at the ends that give the fewest
abbrev pub ratio_for : SideBounds → ℕ → ℕ
ratio_for bounds X = lower_of bounds.whole * (X * unit) / (upper_of bounds.part * million)

-- one more trade of so many units leaves the factor at least one, at the lower end of its gain
pub record Bears (factor : Factor) (ratio : ℕ) : Type 0 where
  pub bears : 2 ^ (40 * (factor.trades + 1) + taken_out factor.net) ≤ ratio * lower_of factor.gain * 2 ^ paid_in factor.net

-- the units for X can be written, and the factor bears them
pub record Serves (bounds : SideBounds) (X : ℕ) : Type 0 where
  pub fits : ratio_for bounds X < number_limit
  pub borne : Bears bounds.factor (ratio_for bounds X)

-- the same as a test
abbrev pub is_served : SideBounds → ℕ → Bool
is_served bounds X =
    ltb (ratio_for bounds X) number_limit
    && leb (2 ^ (40 * (bounds.factor.trades + 1) + taken_out bounds.factor.net)) (ratio_for bounds X * lower_of bounds.factor.gain * 2 ^ paid_in bounds.factor.net)

-- the least and the greatest share that serve the side
abbrev pub interval_for : SideBounds → Option (ℕ × ℕ)
interval_for bounds = span (is_served bounds) max_share
