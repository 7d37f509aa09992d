-- Both sides of a question by bounds: which shares they allow, and what they promise of the exact numbers.
use Rattle.std.specs.Prelude.{ℕ, ◌-◌, ◌≤◌, ◌↔◌, Bool, ◌&&◌, Option}
use Rattle.mk_net.specs.Bounds.{million, max_share}
use Rattle.mk_exact.specs.Limits.{Side, IsFairAndSolvent, Inside, AreRight}
use Rattle.mk_quote.specs.declared.side.SideBounds.{SideBounds}
use Rattle.mk_quote.specs.declared.bounds.Bounds.{Bounds}
use Rattle.mk_quote.specs.Spans.{span}
use Rattle.mk_quote.specs.Sides.{AreBoundsOf, AreGraded, AreExact, Serves, is_served}

-- the sides of the target and of the other values
abbrev pub hit_side : Bounds → SideBounds
hit_side bounds = record { part = bounds.hit; whole = bounds.whole; factor = bounds.hit_factor }

abbrev pub miss_side : Bounds → SideBounds
miss_side bounds = record { part = bounds.miss; whole = bounds.whole; factor = bounds.miss_factor }

-- the bounds enclose both sides
pub record EncloseSides (bounds : Bounds) (hit miss : Side) : Type 0 where
  pub of_hit : AreBoundsOf (hit_side bounds) hit
  pub of_miss : AreBoundsOf (miss_side bounds) miss

pub record AreAllGraded (bounds : Bounds) : Type 0 where
  pub hit : AreGraded (hit_side bounds)
  pub miss : AreGraded (miss_side bounds)

-- nothing was rounded: the small case of a quote
pub record AreAllExact (bounds : Bounds) : Type 0 where
  pub hit : AreExact (hit_side bounds)
  pub miss : AreExact (miss_side bounds)

-- the units for X serve the one side, and those for the rest of a million the other
abbrev pub Allows : Bounds → ℕ → Type 0
Allows bounds X = Serves (hit_side bounds) X × Serves (miss_side bounds) (million - X)

-- the same as a test
abbrev pub is_allowed : Bounds → ℕ → Bool
is_allowed bounds X = is_served (hit_side bounds) X && is_served (miss_side bounds) (million - X)

-- the least and the greatest share that the bounds allow
abbrev pub limits_for : Bounds → Option (ℕ × ℕ)
limits_for bounds = span (is_allowed bounds) max_share

-- limits that hold exactly what the bounds allow
abbrev pub Limit : Bounds → Option (ℕ × ℕ) → Type 0
Limit bounds limits = (X : ℕ) → 1 ≤ X → X ≤ max_share → Inside limits X ↔ Allows bounds X

-- the units are fair and solvent for X, for every two sides that the bounds enclose
abbrev pub AreFairAndSolvent : Bounds → ℕ → ℕ → ℕ → Type 0
AreFairAndSolvent bounds X F_t F_n = (hit miss : Side) → EncloseSides bounds hit miss → AreAllGraded bounds
    → IsFairAndSolvent (AreAllExact bounds) hit X F_t × IsFairAndSolvent (AreAllExact bounds) miss (million - X) F_n

-- the limits are right for every two sides that the bounds enclose
abbrev pub AreRightFor : Bounds → Option (ℕ × ℕ) → Type 0
AreRightFor bounds limits = (hit miss : Side) → EncloseSides bounds hit miss → AreAllGraded bounds → AreRight (AreAllExact bounds) hit miss limits
