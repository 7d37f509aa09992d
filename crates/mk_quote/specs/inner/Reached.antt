-- What the units for a share reach, as the search for the least such share tries it.
use Rattle.std.specs.Prelude.{ℕ, ◌<◌, ◌≤◌, min}
use Rattle.mk_net.specs.Bounds.{number_limit, max_share}
use Rattle.mk_quote.specs.declared.side.SideBounds.{SideBounds}
use Rattle.mk_quote.specs.declared.interval.Bound.{Bound}
use Rattle.mk_quote.specs.declared.interval.Bound.TheVariants.{Borne, TooMany}
use Rattle.mk_quote.specs.declared.interval.Range.{Range}
use Rattle.mk_quote.specs.Sides.{ratio_for, Bears}

abbrev pub Reaches : SideBounds → Bound → ℕ → Type 0
Reaches bounds Borne X = Bears bounds.factor (min number_limit (ratio_for bounds X))
Reaches bounds TooMany X = number_limit ≤ ratio_for bounds X

-- the least share to reach a bound is in the range: none below it does, all from its end on do
pub record HoldsFirst (bounds : SideBounds) (bound : Bound) (range : Range) : Type 0 where
  pub positive : 1 ≤ range.low
  pub ordered : range.low ≤ range.high
  pub at_most : range.high ≤ 1000000
  pub before : (X : ℕ) → X < range.low → 1 ≤ X → ¬ Reaches bounds bound X
  pub later : (X : ℕ) → range.high ≤ X → X ≤ max_share → Reaches bounds bound X
