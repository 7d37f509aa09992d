-- Exact values and lawful ways to join them: what the messages of an engine may add up or compare.
use Rattle.std.specs.Prelude.{◌≡◌, ℕ, ◌+◌, ◌*◌, ◌<◌, ◌≤◌}

-- an exact value is a whole number, and 0 stands for an absent one; the exact times is the product, so only plus varies.
-- The laws of an exact plus: any order, nothing from an absent value, through the product, never absent beside a present
-- value, and at most the sum
pub record Lawful (plus : ℕ → ℕ → ℕ) : Type 0 where
  pub commutes : (a b : ℕ) → plus a b ≡ plus b a
  pub associates : (a b c : ℕ) → plus (plus a b) c ≡ plus a (plus b c)
  pub neutral : (a : ℕ) → plus 0 a ≡ a
  pub distributes : (a b c : ℕ) → a * plus b c ≡ plus (a * b) (a * c)
  pub present : (a b : ℕ) → 0 < a → 0 < plus a b
  pub bounded : (a b : ℕ) → plus a b ≤ a + b
