-- Numbers of cells, of which some are their own.
use Rattle.std.specs.Prelude.{◌≡◌, ℕ, ◌<◌, Bool, false, List, length, slice_index}
use Rattle.mk_cell.specs.Cell.{AllStand, IsOwnAt}

-- each cell of two arrays stands for its number of f, and each that no ratio touched for one of its own
pub record AreNumbers (touched : ℕ → Bool) (shift : ℕ) (digits exponents : List ℕ) (f : ℕ → ℕ) (steps : ℕ) : Type 0 where
  pub stand : AllStand shift digits exponents f steps
  pub own : (c : ℕ) → c < length digits → touched c ≡ false → IsOwnAt shift (slice_index digits c) (slice_index exponents c) (f c) steps
