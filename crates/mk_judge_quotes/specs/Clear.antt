-- Which quotes and trades an auditor may leave undecided: two numbers that a definition compares
-- are near each other, so that enclosures of them need not show which is greater.
use Rattle.std.specs.Prelude.{◌≡◌, ℕ, ◌+◌, ◌-◌, ◌*◌, ◌^◌, ◌≤◌, ◌⊎◌, List, Option, Some}
use Rattle.std.specs.Prelude.{None, slice_get}
use Rattle.mk_net.specs.Bounds.{million, number_limit, max_share}
use Rattle.mk_net.specs.Asked.{Asked}
use Rattle.mk_states.specs.Ratios.{unit}
use Rattle.mk_exact.specs.History.{Entry}
use Rattle.mk_exact.specs.Weight.{IsSmall}
use Rattle.mk_exact.specs.Factors.{HoldsNoTrade}
use Rattle.mk_exact.specs.Limits.{Side}
use Rattle.mk_exact.specs.Sides.{AreSides}
use Rattle.mk_exact.specs.Market.{Market}
use Rattle.mk_spread.specs.Spreads.{SpreadAsked}
use Rattle.mk_spread.specs.Markets.{IsValueSide}
use Rattle.mk_rules.specs.Quotes.{Interval}
use Rattle.mk_judge.specs.Compared.{AreNear}
use Rattle.mk_judge.specs.Limits.{IsLeastSolvent}
use Rattle.mk_evidence.specs.Grades.{evidence_grade}

-- two numbers are near where each is at most the other times (1 + 2 ^ -60) ^ steps
abbrev pub near_steps : Market → List Entry → ℕ
near_steps market H = 4 * evidence_grade market H

-- ---- one side of a question; what names no price is never near for a user who holds no trade

-- units and a share, by IsFair and IsSolvent
abbrev pub AreUnitsOpen : ℕ → Type 0 → Side → ℕ → ℕ → Type 0
AreUnitsOpen steps idle side X F =
    AreNear (F * million * side.price.num) (X * unit * side.price.den) steps
    ⊎ (AreNear ((F + 1) * million * side.price.num * 2 ^ 30)
    (X * unit * side.price.den * (2 ^ 30 - 1)) steps
    ⊎ (¬ idle) × AreNear (unit * side.least.den) (F * side.least.num) steps)

-- the ends of some shares, by whether all of them can be traded: n is the least number of solvent
-- units
abbrev pub AreEndsOpen : ℕ → Type 0 → Side → ℕ → ℕ → ℕ → Type 0
AreEndsOpen steps idle side n low high =
    AreNear (n * million * side.price.num) (low * unit * side.price.den) steps
    ⊎ (AreNear (number_limit * million * side.price.num * 2 ^ 30)
    (high * unit * side.price.den * (2 ^ 30 - 1)) steps
    ⊎ (¬ idle) × (AreNear (unit * side.least.den) (n * side.least.num) steps
    ⊎ AreNear (unit * side.least.den) ((n - 1) * side.least.num) steps))

-- some share, by whether it can well be traded
pub record IsShareOpen (steps : ℕ) (side : Side) : Type 0 where
  pub share : ℕ
  pub some : 1 ≤ share
  pub few : share ≤ max_share
  pub near : AreNear (side.least.den * million * side.price.num * (2 ^ 19 + 1))
      (side.least.num * share * side.price.den * 2 ^ 19) steps
      ⊎ AreNear (share * side.price.den) (2 ^ 22 * million * side.price.num) steps

-- one of these
abbrev pub IsIntervalOpen : ℕ → Type 0 → Side → ℕ → ℕ → Type 0
IsIntervalOpen steps idle side low high =
    ((n : ℕ) → IsLeastSolvent side.least n → AreEndsOpen steps idle side n low high)
    ⊎ IsShareOpen steps side

-- ---- both sides of an edit

pub record IsTradeOpen (market : Market) (H : List Entry) (u : ℕ) (asked : Asked)
    (X hit_units miss_units : ℕ) : Type 0 where
  pub hit : Side
  pub miss : Side
  pub sides : AreSides market.network H u asked hit miss
  pub large : ¬ IsSmall market.network H
  pub near : AreUnitsOpen (near_steps market H) (HoldsNoTrade H u) hit X hit_units
      ⊎ AreUnitsOpen (near_steps market H) (HoldsNoTrade H u) miss (million - X) miss_units

-- limits: those from low to high, or none
abbrev pub AreSidesOpen : ℕ → Type 0 → Side → Side → Interval → Type 0
AreSidesOpen steps idle hit miss None = IsShareOpen steps hit ⊎ IsShareOpen steps miss
AreSidesOpen steps idle hit miss (Some (low, high)) = IsIntervalOpen steps idle hit low high
    ⊎ IsIntervalOpen steps idle miss (million - high) (million - low)

pub record AreLimitsOpen (market : Market) (H : List Entry) (u : ℕ) (asked : Asked)
    (limits : Interval) : Type 0 where
  pub hit : Side
  pub miss : Side
  pub sides : AreSides market.network H u asked hit miss
  pub large : ¬ IsSmall market.network H
  pub near : AreSidesOpen (near_steps market H) (HoldsNoTrade H u) hit miss limits

-- ---- a value of a whole distribution

pub record IsValueOpen (market : Market) (H : List Entry) (u : ℕ) (spread : SpreadAsked)
    (unclear : ℕ → Side → Type 0) : Type 0 where
  pub value : ℕ
  pub side : Side
  pub is_side : IsValueSide market.network H u spread value (Some side)
  pub large : ¬ IsSmall market.network H
  pub is_open : unclear value side

-- its units for its share
abbrev pub AreFactorsOpen : Market → List Entry → ℕ → SpreadAsked → List ℕ → List ℕ → Type 0
AreFactorsOpen market H u spread Xs Fs = IsValueOpen market H u spread
    (λ value side. (X : ℕ) × (F : ℕ) × (slice_get Xs value ≡ Some X) × (slice_get Fs value ≡ Some F)
    × AreUnitsOpen (near_steps market H) (HoldsNoTrade H u) side X F)

-- its interval, or that it has none
abbrev pub AreBoundsOpen : Market → List Entry → ℕ → SpreadAsked → Option (List (ℕ × ℕ)) → Type 0
AreBoundsOpen market H u spread None = IsValueOpen market H u spread
    (λ value side. IsShareOpen (near_steps market H) side)
AreBoundsOpen market H u spread (Some intervals) = IsValueOpen market H u spread
    (λ value side. (low : ℕ) × (high : ℕ) × (slice_get intervals value ≡ Some (low, high))
    × IsIntervalOpen (near_steps market H) (HoldsNoTrade H u) side low high)
