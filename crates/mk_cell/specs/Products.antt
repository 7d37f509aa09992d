-- Products of cells that are not rounded to full digits.
use Rattle.std.specs.Prelude.{◌≡◌, ℕ, ◌+◌, ◌*◌, ◌/◌, ◌^◌, ◌<◌, List, length, slice_index}
use Rattle.mk_cell.specs.Cell.{IsCell, StandsAt}

-- the first 64 of the 128 places that the product of two cells' digits may have, so the first place may be 0; and the sum of the cells' exponents
pub record IsUnrounded (left left_exponent right right_exponent places exponent : ℕ) : Type 0 where
  pub left_cell : IsCell left left_exponent
  pub right_cell : IsCell right right_exponent
  pub places_are : places ≡ left * right / 2 ^ 64
  pub exponent_is : exponent ≡ left_exponent + right_exponent

-- two arrays have them of the cells of a and e, each times that of b and d
pub record AreUnrounded (a e b d : ℕ → ℕ) (places exponents : List ℕ) : Type 0 where
  pub same_length : length exponents ≡ length places
  pub each : (c : ℕ) → c < length places → IsUnrounded (a c) (e c) (b c) (d c) (slice_index places c) (slice_index exponents c)

-- below a bound the cells of a and e stand for their numbers of f, and those of b and d for theirs of g
pub record PairsStand (count : ℕ) (a e b d : ℕ → ℕ) (j k : ℕ) (f g : ℕ → ℕ) (n p : ℕ) : Type 0 where
  pub left : (c : ℕ) → c < count → StandsAt j (a c) (e c) (f c) n
  pub right : (c : ℕ) → c < count → StandsAt k (b c) (d c) (g c) p
