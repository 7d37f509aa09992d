-- Right limits of an edit, for the exact numbers of its question.
use Rattle.std.specs.Prelude.{ℕ, ◌+◌, ◌-◌, ◌*◌, ◌/◌, ◌^◌, ◌<◌, ◌≤◌, Option, Some, None, ◌↔◌}
use Rattle.mk_net.specs.Bounds.{number_limit, million, max_share}
use Rattle.mk_states.specs.Ratios.{unit}
use Rattle.mk_exact.specs.Factors.{Fraction}
use Rattle.mk_exact.specs.Prices.{IsFair, IsSolvent}

-- the exact price and the user's least factor on one side of a question
pub record Side : Type 0 where
  pub price : Fraction
  pub least : Fraction

-- units that are fair and solvent for X
pub record IsFairAndSolvent (small : Type 0) (side : Side) (X F : ℕ) : Type 0 where
  pub fair : IsFair small F X side.price
  pub solvent : IsSolvent F side.least

-- X leaves the factor a little above one, and moves the price by at most 2^22
pub record IsWanted (side : Side) (X : ℕ) : Type 0 where
  pub above_one : side.least.den * million * side.price.num * (2 ^ 19 + 1) ≤ side.least.num * X * side.price.den * 2 ^ 19
  pub not_far : X * side.price.den ≤ 2 ^ 22 * million * side.price.num

-- the exact floor of the units for X fits and is solvent
abbrev pub IsFloorSolvent : Side → ℕ → Type 0
IsFloorSolvent side X =
    let F = X * unit * side.price.den / (million * side.price.num) in (F < number_limit) × IsSolvent F side.least

abbrev pub Inside : Option (ℕ × ℕ) → ℕ → Type 0
Inside None X = ⊥
Inside (Some (low, high)) X = (low ≤ X) × (X ≤ high)

-- limits are none, or lie in order within 1 to 999,999
abbrev pub IsWithinRange : Option (ℕ × ℕ) → Type 0
IsWithinRange None = Unit {0}
IsWithinRange (Some (low, high)) = (1 ≤ low) × (low ≤ high) × (high ≤ max_share)

-- limits are right: what is inside can be traded, what can well be traded is inside, and in the small case exactly that
pub record AreRight (small : Type 0) (hit miss : Side) (limits : Option (ℕ × ℕ)) : Type 0 where
  pub in_range : IsWithinRange limits
  pub sound : (X : ℕ) → Inside limits X
      → (F_t : ℕ) × (F_n : ℕ) × IsFairAndSolvent small hit X F_t × IsFairAndSolvent small miss (million - X) F_n
  pub near_complete : (X : ℕ) → 1 ≤ X → X ≤ max_share → IsWanted hit X → IsWanted miss (million - X) → Inside limits X
  pub exact : small → (X : ℕ) → 1 ≤ X → X ≤ max_share
      → Inside limits X ↔ (IsFloorSolvent hit X × IsFloorSolvent miss (million - X))
