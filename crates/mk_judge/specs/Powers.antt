-- Powers of a factor's gain, and the powers of two that stand beside them.
use Rattle.std.specs.Prelude.{◌≡◌, ℕ, ◌+◌, ◌*◌, ◌^◌, ◌<◌, ◌≤◌}
use Rattle.mk_scaled.specs.Range.{two_to}
use Rattle.mk_enclose.specs.declared.factor.Factor.{Factor}
use Rattle.mk_enclose.specs.Enclosure.{upper_of}
use Rattle.mk_enclose.specs.Factor.{paid_in, taken_out}
use Rattle.mk_judge.specs.declared.scale.Scale.{Scale}

-- the powers that are compared have few enough bits, with room for one part in 2^59
pub record HasCashRange (factor : Factor) (power : ℕ) : Type 0 where
  pub bits : ℕ
  pub gain : upper_of factor.gain ≤ two_to bits
  pub above : power * (paid_in factor.net + (bits + 59)) < 2 ^ 50
  pub below : power * (40 * factor.trades + taken_out factor.net) < 2 ^ 50

-- z over w is g times the one power of two, over the other
pub record StandsBeside (scale : Scale) (g z w : ℕ) : Type 0 where
  pub positive : 1 ≤ w
  pub same : z * 2 ^ scale.owed ≡ g * 2 ^ scale.gained * w
