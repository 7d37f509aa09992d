-- Directed rounding to a mantissa of 64 bits.
use Rattle.std.specs.Prelude.{◌≡◌, ℕ, ◌*◌, ◌^◌, ◌<◌, ◌≤◌}

-- A mantissa below 2 ^ 64 times a power of two.
pub record IsRepresentable (n : ℕ) : Type 0 where
  pub mantissa : ℕ
  pub exponent : ℕ
  pub positive : 1 ≤ mantissa
  pub below : mantissa < 2 ^ 64
  pub written : n ≡ mantissa * 2 ^ exponent

-- n is the greatest representable number that is not above the exact one
pub record IsGreatestBelow (n exact : ℕ) : Type 0 where
  pub representable : IsRepresentable n
  pub below : n ≤ exact
  pub greatest : (k : ℕ) → IsRepresentable k → k ≤ exact → k ≤ n

-- n is the least representable number that is not below the exact one
pub record IsLeastAbove (n exact : ℕ) : Type 0 where
  pub representable : IsRepresentable n
  pub above : exact ≤ n
  pub least : (k : ℕ) → IsRepresentable k → exact ≤ k → n ≤ k
