-- The least units that leave a factor at least one.
use Rattle.std.specs.Prelude.{ℕ, ◌+◌, ◌-◌, ◌*◌, ◌^◌, ◌<◌, ◌≤◌, ◌⊎◌, ⊤}
use Rattle.mk_net.specs.Bounds.{number_limit}
use Rattle.mk_states.specs.Ratios.{unit}
use Rattle.mk_exact.specs.Factors.{Fraction}
use Rattle.mk_exact.specs.Prices.{IsSolvent}
use Rattle.mk_enclose.specs.declared.factor.Factor.{Factor}
use Rattle.mk_enclose.specs.declared.enclosure.Enclosure.{Enclosure}
use Rattle.mk_enclose.specs.Enclosure.{HasGrade, IsExact}
use Rattle.mk_judge.specs.Compared.{AreNear}
use Rattle.mk_judge.specs.declared.scale.Scale.{Scale}
use Rattle.mk_judge.specs.declared.least.Least.{Least}
use Rattle.mk_judge.specs.declared.least.Least.TheVariants.{Units, TooMany, Unsure}
use Rattle.mk_judge.specs.Limits.{IsLeastSolvent, IsLeastNear}

-- so many units of a gain are at least one
abbrev pub AreEnough : Scale → ℕ → ℕ → Type 0
AreEnough scale gain units = 2 ^ (40 + scale.owed) ≤ units * gain * 2 ^ scale.gained

pub record AreLeast (scale : Scale) (gain n : ℕ) : Type 0 where
  pub fits : n < number_limit
  pub enough : AreEnough scale gain n
  pub least : (F : ℕ) → AreEnough scale gain F → n ≤ F

-- no units that fit are enough
abbrev pub AreTooMany : Scale → ℕ → Type 0
AreTooMany scale gain = (F : ℕ) → F < number_limit
    → F * gain * 2 ^ scale.gained < 2 ^ (40 + scale.owed)

-- the least units are known, or they are more than fit, or what is near leaves them open
abbrev pub SaysLeast : Least → Factor → Fraction → Type 0
SaysLeast (Units n) factor q = IsLeastSolvent q n
SaysLeast TooMany factor q = (F : ℕ) → F < number_limit → IsSolvent F q → ⊥
SaysLeast Unsure factor q = (n : ℕ) → IsLeastSolvent q n → IsLeastNear factor q n

-- the same of a gain and the fraction that it stands beside
abbrev pub SaysLeastOf : Least → Enclosure → ℕ → ℕ → Type 0
SaysLeastOf (Units n) gain z w = IsLeastSolvent (record { num = z; den = w }) n
SaysLeastOf TooMany gain z w = (F : ℕ) → F < number_limit → F * z < unit * w
SaysLeastOf Unsure gain z w =
    (IsExact gain → ⊥) × ((n : ℕ) → IsLeastSolvent (record { num = z; den = w }) n → (g : ℕ)
    → HasGrade gain g → AreNear (unit * w) (n * z) g ⊎ AreNear (unit * w) ((n - 1) * z) g)

-- what is known fits
abbrev pub FitsLeast : Least → Type 0
FitsLeast (Units n) = n < number_limit
FitsLeast TooMany = ⊤
FitsLeast Unsure = ⊤
