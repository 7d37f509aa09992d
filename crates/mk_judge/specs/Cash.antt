-- What a factor's bounds say of the fraction that it stands for.
use Rattle.std.specs.Prelude.{◌≡◌, ◌*◌, ◌^◌}
use Rattle.mk_exact.specs.Factors.{Fraction, IsAtLeastOne}
use Rattle.mk_enclose.specs.declared.factor.Factor.{Factor}
use Rattle.mk_enclose.specs.Factor.{paid_in, taken_out, StandsFor}

-- the factor stands for a fraction; without trades its gain is one
pub record IsHeld (factor : Factor) (q : Fraction) : Type 0 where
  pub stands : StandsFor factor q.num q.den
  pub idle : factor.trades ≡ 0 → q.num * 2 ^ taken_out factor.net ≡ 2 ^ paid_in factor.net * q.den

-- and the fraction is at least one
pub record IsOwned (factor : Factor) (q : Fraction) : Type 0 where
  pub held : IsHeld factor q
  pub one : IsAtLeastOne q
