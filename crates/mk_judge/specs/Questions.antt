-- What bounds say of both sides of a question, and which numbers a judge of its limits compares.
use Rattle.std.specs.Prelude.{ℕ, ◌-◌, ◌⊎◌, Bool, Option, Some, None}
use Rattle.mk_net.specs.Bounds.{million}
use Rattle.mk_exact.specs.Limits.{Side}
use Rattle.mk_quote.specs.declared.side.SideBounds.{SideBounds}
use Rattle.mk_quote.specs.declared.bounds.Bounds.{Bounds}
use Rattle.mk_quote.specs.Bounds.{hit_side, miss_side}
use Rattle.mk_judge.specs.Units.{AreSideBounds}
use Rattle.mk_judge.specs.Limits.{IsIntervalNear}
use Rattle.mk_judge.specs.Wanted.{IsWantedNear}

-- the bounds are those of both sides
pub record AreTwoSides (bounds : Bounds) (small : Bool) (hit miss : Side) : Type 0 where
  pub of_hit : AreSideBounds (hit_side bounds) small hit
  pub of_miss : AreSideBounds (miss_side bounds) small miss

-- near are two numbers of one side that decide whether the shares of an interval can be traded, or
-- whether some share is wanted
abbrev pub IsSideNear : SideBounds → Side → ℕ → ℕ → Type 0
IsSideNear bounds side low high = IsIntervalNear bounds side low high ⊎ IsWantedNear bounds side

-- near are two numbers of either side: where none are given, those of some wanted share
abbrev pub AreLimitsNear : Bounds → Side → Side → Option (ℕ × ℕ) → Type 0
AreLimitsNear bounds hit miss None =
    IsWantedNear (hit_side bounds) hit ⊎ IsWantedNear (miss_side bounds) miss
AreLimitsNear bounds hit miss (Some (low, high)) =
    IsSideNear (hit_side bounds) hit low high
    ⊎ IsSideNear (miss_side bounds) miss (million - high) (million - low)
