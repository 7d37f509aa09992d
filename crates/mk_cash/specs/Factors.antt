-- When the powers of a factor are in range.
use Rattle.std.specs.Prelude.{ℕ, ◌+◌, ◌*◌, ◌^◌}
use Rattle.mk_scaled.specs.Range.{IsInRange}
use Rattle.mk_enclose.specs.declared.factor.Factor.{Factor}
use Rattle.mk_enclose.specs.Enclosure.{upper_of}
use Rattle.mk_enclose.specs.Factor.{paid_in, taken_out}

-- the powers that are compared are in range: of what multiplies the factor, and of what divides it
pub record HasPowersInRange (factor : Factor) (power : ℕ) : Type 0 where
  pub above : IsInRange (2 ^ (power * paid_in factor.net) * upper_of factor.gain ^ power)
  pub below : IsInRange (2 ^ (power * (40 * factor.trades + taken_out factor.net)))
