-- When every share of an interval can be traded, and which numbers a judge of it compares.
use Rattle.std.specs.Prelude.{◌≡◌, ℕ, ◌+◌, ◌-◌, ◌*◌, ◌^◌, ◌≤◌, ◌⊎◌}
use Rattle.mk_net.specs.Bounds.{number_limit, million}
use Rattle.mk_states.specs.Ratios.{unit}
use Rattle.mk_exact.specs.Factors.{Fraction}
use Rattle.mk_exact.specs.Prices.{IsSolvent}
use Rattle.mk_exact.specs.Limits.{Side, IsFairAndSolvent}
use Rattle.mk_enclose.specs.declared.factor.Factor.{Factor}
use Rattle.mk_enclose.specs.Enclosure.{HasGrade}
use Rattle.mk_quote.specs.declared.side.SideBounds.{SideBounds}
use Rattle.mk_judge.specs.Compared.{AreNear}

-- outside of the small case: each share from low to high has units that are fair and solvent
abbrev pub CanBeTraded : Side → ℕ → ℕ → Type 0
CanBeTraded side low high = (X : ℕ) → low ≤ X → X ≤ high → (F : ℕ) × IsFairAndSolvent ⊥ side X F

-- the least units that leave a factor at least one
pub record IsLeastSolvent (q : Fraction) (n : ℕ) : Type 0 where
  pub solvent : IsSolvent n q
  pub least : (m : ℕ) → IsSolvent m q → n ≤ m

-- what the least units make of the factor is near one, or what one unit less makes of it; never
-- where the user holds no trade
pub record IsLeastNear (factor : Factor) (q : Fraction) (n : ℕ) : Type 0 where
  pub traded : factor.trades ≡ 0 → ⊥
  pub near : (g : ℕ) → HasGrade factor.gain g → AreNear (unit * q.den) (n * q.num) g
      ⊎ AreNear (unit * q.den) ((n - 1) * q.num) g

-- at the low end the least units are near what is fair, or at the high end the limit of units is
abbrev pub AreEndsNear : SideBounds → Side → ℕ → ℕ → ℕ → Type 0
AreEndsNear bounds side n low high =
    (g h : ℕ) → HasGrade bounds.part g → HasGrade bounds.whole h
    → AreNear (n * million * side.price.num) (low * unit * side.price.den) (g + h)
    ⊎ AreNear (number_limit * million * side.price.num * 2 ^ 30) (high * unit * side.price.den * (2 ^ 30 - 1)) (g + h)

-- for the least units, one of these
abbrev pub IsIntervalNear : SideBounds → Side → ℕ → ℕ → Type 0
IsIntervalNear bounds side low high = (n : ℕ) → IsLeastSolvent side.least n
    → IsLeastNear bounds.factor side.least n ⊎ AreEndsNear bounds side n low high
