-- The lesser of two numbers, where 0 stands for Absent and gives way.
use Rattle.std.specs.Prelude.{◌≡◌, ℕ, zero, suc, ◌+◌, ◌<◌, ◌≤◌, min, refl}
use Rattle.std.proofs.Common.{arith}

unfoldable pub least : ℕ → ℕ → ℕ
least zero b = b
least (suc a) zero = suc a
least (suc a) (suc b) = min (suc a) (suc b)

pub least-zero : (b : ℕ) → least 0 b ≡ b
unfolding least
least-zero b = refl

pub least-at_zero : (a : ℕ) → least a 0 ≡ a
unfolding least
least-at_zero zero = refl
least-at_zero (suc a) = refl

pub least-both : (a b : ℕ) → 0 < a → 0 < b → least a b ≡ min a b
unfolding least
least-both zero b p q = absurd (omega arith)
least-both (suc a) zero p q = absurd (omega arith)
least-both (suc a) (suc b) p q = refl

-- What a search for the least value of f makes, of those places below a bound that count; a value from `far` on where none does.
pub record IsLeastOf (n : ℕ) (counts : ℕ → Type 0) (far : ℕ) (f : ℕ → ℕ) (value : ℕ) : Type 0 where
  pub below : (c : ℕ) → c < n → counts c → value ≤ f c
  pub attained : value < far → (c : ℕ) × (c < n) × counts c × (f c ≡ value)

-- the exponent is the lowest, or one more
pub record IsNextTo (lowest exponent : ℕ) : Type 0 where
  pub low : lowest ≤ exponent
  pub high : exponent ≤ lowest + 1
