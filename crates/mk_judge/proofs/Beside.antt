-- A factor and its power beside powers of two.
use Rattle.std.proofs.Common.{◌≡◌, ℕ, ◌+◌, ◌*◌, ◌^◌, arith}
use Rattle.std.proofs.Math.Nat.{one-le-pow, pow-zero, pow-suc}
use Rattle.mk_exact.specs.Factors.{Fraction}
use Rattle.mk_enclose.specs.declared.factor.Factor.{Factor}
use Rattle.mk_enclose.specs.Factor.{paid_in, taken_out, StandsFor}
use Rattle.mk_cash.proofs.Covering.{raised_factor}
use Rattle.mk_judge.specs.declared.scale.Scale.{Scale}
use Rattle.mk_judge.specs.Powers.{StandsBeside}

pub power_beside : (factor : Factor) (q : Fraction) (b : ℕ) (scale : Scale) (stands : StandsFor factor q.num q.den) → scale.gained ≡ b * paid_in factor.net
    → scale.owed ≡ b * (40 * factor.trades + taken_out factor.net) → StandsBeside scale (stands.gain ^ b) (q.num ^ b) (q.den ^ b)
power_beside factor q b scale stands gained owed = record {
  positive = one-le-pow b q.den stands.positive;
  same = rw (gained, owed)
      (let e = raised_factor q.num q.den factor.trades (taken_out factor.net) (paid_in factor.net) stands.gain b stands.same in omega (arith, e));
}

-- the factor itself
pub one_beside : (factor : Factor) (q : Fraction) (scale : Scale) (stands : StandsFor factor q.num q.den) → scale.gained ≡ 1 * paid_in factor.net
    → scale.owed ≡ 1 * (40 * factor.trades + taken_out factor.net) → StandsBeside scale stands.gain q.num q.den
one_beside factor q scale stands gained owed = rw (pow_one stands.gain, pow_one q.num, pow_one q.den) at (power_beside factor q 1 scale stands gained owed)
  where
    pow_one : (n : ℕ) → n ^ 1 ≡ n
    pow_one n = rw (pow-suc n 0, pow-zero n) (omega arith)
