-- What the comparisons of units are together.
use Rattle.std.proofs.Common.{ℕ, ◌+◌, ◌*◌, refl, arith}
use Rattle.mk_exact.specs.Factors.{Fraction}
use Rattle.mk_exact.specs.Prices.{IsFair}
use Rattle.mk_judge.specs.Compared.{AreNear}
use Rattle.mk_judge.proofs.Nearness.{times_near, near_same_as}

-- the small case is the same as another where both hold or neither does
pub fair_for : (small other : Type 0) (F X : ℕ) (price : Fraction) → (other → small) → IsFair small F X price → IsFair other F X price
fair_for small other F X price to h = record { positive = h.positive; fits = h.fits; not_above = h.not_above; close = h.close; floor = λ o. h.floor (to o) }

-- near still, where both are multiplied
pub both_times : (k a b steps : ℕ) → AreNear a b steps → AreNear (a * k) (b * k) steps
both_times k a b steps h = record { upward = times_near k a b steps h.upward; downward = times_near k b a steps h.downward }

-- in steps of the other order
pub turned : (a b g h : ℕ) → AreNear a b (h + g) → AreNear a b (g + h)
turned a b g h near = near_same_as a b (h + g) a b (g + h) refl refl (omega arith) near
