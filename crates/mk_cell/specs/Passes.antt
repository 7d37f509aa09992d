-- What a pass over an array makes.
use Rattle.std.specs.Prelude.{◌≡◌, ℕ, zero, suc, ◌+◌, refl}
use Rattle.std.proofs.Common.{sym, ap, ◌∙◌, arith}

-- the exact plus of f over the numbers below a bound
abbrev pub plus_below : (ℕ → ℕ → ℕ) → ℕ → (ℕ → ℕ) → ℕ
plus_below plus zero f = 0
plus_below plus (suc n) f = plus (plus_below plus n f) (f n)

-- what joins f over the numbers below a bound, from a first value; no proof of another file computes it
pub folded : (ℕ → ℕ → ℕ) → ℕ → ℕ → (ℕ → ℕ) → ℕ
folded join first zero f = first
folded join first (suc n) f = join (folded join first n f) (f n)

pub folded-zero : (join : ℕ → ℕ → ℕ) (first : ℕ) (f : ℕ → ℕ) → folded join first 0 f ≡ first
unfolding folded
folded-zero join first f = refl

pub folded-suc : (join : ℕ → ℕ → ℕ) (first n : ℕ) (f : ℕ → ℕ) → folded join first (suc n) f ≡ join (folded join first n f) (f n)
unfolding folded
folded-suc join first n f = refl

-- one place more
pub folded-next : (join : ℕ → ℕ → ℕ) (first n : ℕ) (f : ℕ → ℕ) → folded join first (n + 1) f ≡ join (folded join first n f) (f n)
folded-next join first n f = let s : n + 1 ≡ suc n = omega arith in rw s (folded-suc join first n f)

pub plus_below-folded : (plus : ℕ → ℕ → ℕ) (n : ℕ) (f : ℕ → ℕ) → plus_below plus n f ≡ folded plus 0 n f
plus_below-folded plus zero f = sym (folded-zero plus 0 f)
plus_below-folded plus (suc n) f = ap (λ x. plus x (f n)) (plus_below-folded plus n f) ∙ sym (folded-suc plus 0 n f)
