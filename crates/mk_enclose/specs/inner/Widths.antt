-- The law on widths: a grade below 2 ^ 20 leaves the ends within one part in 2 ^ 40.
use Rattle.std.specs.Prelude.{ℕ, ◌+◌, ◌-◌, ◌*◌, ◌^◌, ◌≤◌}
use Rattle.std.proofs.Common.{arith}
use Rattle.std.proofs.Math.Nat.{mul-le-mul_left}
use Rattle.mk_scaled.specs.Near.{IsNear, near_width}
use Rattle.mk_enclose.specs.Enclosure.{widest_grade}

thin : (low high c : ℕ) → 2 ^ 60 - widest_grade ≤ c → high * c ≤ low * 2 ^ 60 → high * 2 ^ 40 ≤ low * (2 ^ 40 + 1)
thin low high c h l = let m : high * (2 ^ 60 - widest_grade) ≤ high * c = mul-le-mul_left high h in omega arith

pub narrow_ends : (low high g : ℕ) → g ≤ widest_grade → IsNear low high g → high * 2 ^ 40 ≤ low * (2 ^ 40 + 1)
narrow_ends low high g h l = thin low high (2 ^ 60 - g) (omega arith) (near_width low high g l)
