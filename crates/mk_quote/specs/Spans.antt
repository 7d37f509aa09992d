-- The least and the greatest number where a test holds.
use Rattle.std.specs.Prelude.{ℕ, zero, suc, Bool, true, false, Option, Some, None}

-- an interval after a number above it was tried
abbrev pub widened : Bool → ℕ → Option (ℕ × ℕ) → Option (ℕ × ℕ)
widened false X below = below
widened true X None = Some (X, X)
widened true X (Some (least, _)) = Some (least, X)

-- the least and the greatest number from 1 to n where a test holds, if it holds anywhere there
unfoldable pub span : (ℕ → Bool) → ℕ → Option (ℕ × ℕ)
span holds zero = None
span holds (suc n) = widened (holds (suc n)) (suc n) (span holds n)
