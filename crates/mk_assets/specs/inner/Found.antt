-- What was found of a least gain.
use Rattle.std.specs.Prelude.{ℕ, ◌<◌}
use Rattle.mk_net.specs.Bounds.{number_limit}
use Rattle.mk_semiring.specs.declared.held.Held.{Held}
use Rattle.mk_semiring.specs.Held.{HeldEncloses, HasHeldGrade, IsHeldExact}
use Rattle.mk_engine.specs.Meaning.{whole_sum}
use Rattle.mk_assets.specs.Holdings.{Holding}

-- what is found encloses the least gain of a holding, at a grade, and is exact in the small case
pub record IsFound (h : Holding) (least_gain most : ℕ) (found : Held) : Type 0 where
  pub value : HeldEncloses found least_gain
  pub grade : HasHeldGrade found most
  pub exact : whole_sum h.meaning < number_limit → IsHeldExact found
