-- How a caller shows what a factor stands for.
use Rattle.std.specs.Prelude.{◌≡◌, ℕ, ◌+◌, ◌*◌, ◌^◌}
use Rattle.std.proofs.Common.{sym, ap, ◌∙◌, arith}
use Rattle.std.proofs.lemmas.Nat.{pow-add, pow_pos}
use Rattle.std.proofs.Math.Nat.{one-le-mul, one-le-pow}
use Rattle.mk_enclose.specs.declared.factor.Factor.{Factor}
use Rattle.mk_enclose.specs.Enclosure.{Encloses}
use Rattle.mk_enclose.specs.Factor.{paid_in, taken_out, StandsFor}

-- A factor stands for a fraction however its net bits are split: deposits above the line, withdrawals below it.
regrouped : (i t p o g a : ℕ) → i * t ≡ p * o → i * g * (t * a) ≡ p * g * (o * a)
regrouped i t p o g a e =
    let s : i * t * (g * a) ≡ p * o * (g * a) = ap (λ z. z * (g * a)) e in
    omega arith

pub stands_for : (f : Factor) (gain deposits withdrawals : ℕ) → Encloses f.gain gain → paid_in f.net + withdrawals ≡ deposits + taken_out f.net
    → StandsFor f (2 ^ deposits * gain) (2 ^ withdrawals * (2 ^ 40) ^ f.trades)
stands_for f gain deposits withdrawals encloses split =
    let e : 2 ^ deposits * 2 ^ taken_out f.net ≡ 2 ^ paid_in f.net * 2 ^ withdrawals =
    sym (pow-add 2 deposits (taken_out f.net)) ∙ ap (λ k. 2 ^ k) (sym split) ∙ pow-add 2 (paid_in f.net) withdrawals in
    record {
      gain = gain;
      encloses = encloses;
      positive = one-le-mul (pow_pos withdrawals) (one-le-pow f.trades (2 ^ 40) (omega arith));
      same = regrouped (2 ^ deposits) (2 ^ taken_out f.net) (2 ^ paid_in f.net) (2 ^ withdrawals) gain ((2 ^ 40) ^ f.trades) e;
    }
