-- Which numbers a judge of the operator's loss compares.
use Rattle.std.specs.Prelude.{ℕ, ◌+◌, ◌*◌, ◌^◌}
use Rattle.mk_net.specs.Bounds.{million}
use Rattle.mk_exact.specs.Factors.{Fraction}
use Rattle.mk_exact.specs.Risk.{nearness}
use Rattle.mk_enclose.specs.declared.enclosure.Enclosure.{Enclosure}
use Rattle.mk_enclose.specs.Enclosure.{HasGrade}
use Rattle.mk_judge_points.specs.Cash.{ArePowersNear}

-- the total initial weight over the least one
abbrev pub quotient : ℕ → ℕ → Fraction
quotient total least = record { num = total; den = least }

-- two numbers that CoversBound compares are near, as for the cash of this quotient: by the steps
-- of the grade of the least weight,
-- four for each variable and nine more, for each factor of the power
abbrev pub IsBoundNear : Enclosure → ℕ → ℕ → ℕ → ℕ → ℕ → Type 0
IsBoundNear least variables m b low high =
    let total = million ^ variables in
    (g : ℕ) → HasGrade least g
    → ArePowersNear (nearness total) (quotient total m) b low high (b * (g + 4 * variables + 9))
