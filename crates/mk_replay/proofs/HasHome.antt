-- Homes that are there.
use Rattle.std.proofs.Common.{◌≡◌, ℕ, true, Option, Some, None, is_some}

-- a pair that has a home is not without one
pub no_home : (found its : Option ℕ) → found ≡ None → found ≡ its → is_some its ≡ true → ⊥
no_home found None none e h = absurd (cc)
no_home found (Some k) none e h = absurd (cc)
