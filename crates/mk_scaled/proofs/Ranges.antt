-- The two ranges.
use Rattle.std.proofs.Common.{◌≡◌, ℕ, ◌+◌, ◌*◌, ◌^◌, sym, ap, ◌∙◌, arith, lt_of_lt_of_le}
use Rattle.std.proofs.lemmas.Nat.{pow-add}
use Rattle.std.proofs.Math.Nat.{mul_assoc}
use Rattle.mk_scaled.specs.Range.{two_to-mono, IsInRange}
use Rattle.mk_scaled.specs.Rounding.{IsRepresentable, IsGreatestBelow}
use Rattle.mk_scaled.specs.inner.Closeness.{greatest_exact}
use Rattle.mk_scaled.specs.inner.Wide.{IsNearRange}

pub near_range : (n : ℕ) → IsInRange n → IsNearRange n
near_range n h = lt_of_lt_of_le h (two_to-mono (2 ^ 50) (2 ^ 50 + 2) (omega arith))

-- what a power of two times a representable number is rounded to
shift_representable : (n k : ℕ) → IsRepresentable n → IsRepresentable (n * 2 ^ k)
shift_representable n k r = record {
  mantissa = r.mantissa;
  exponent = r.exponent + k;
  positive = r.positive;
  below = r.below;
  written = ap (λ y. y * 2 ^ k) r.written ∙ mul_assoc r.mantissa (2 ^ r.exponent) (2 ^ k) ∙ ap (λ y. r.mantissa * y) (sym (pow-add 2 r.exponent k));
}

pub shifted_exactly : (r n k : ℕ) → IsRepresentable n → IsGreatestBelow r (n * 2 ^ k) → r ≡ n * 2 ^ k
shifted_exactly r n k p h = greatest_exact r (n * 2 ^ k) h (shift_representable n k p)
