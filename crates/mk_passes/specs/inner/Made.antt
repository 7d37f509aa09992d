-- What can be made of the cells of a table, and which cells were made.
use Rattle.std.specs.Prelude.{◌≡◌, ℕ, ◌+◌, ◌-◌, ◌*◌, ◌<◌, ◌≤◌, List, All, length, slice_index}
use Rattle.mk_net.specs.Bounds.{max_clique_cells}
use Rattle.mk_states.specs.States.{plus_over}
use Rattle.mk_cell.specs.Cell.{StandsAt}
use Rattle.mk_scope.specs.Runs.{IsAmong, cells_at, runs_of}
use Rattle.mk_passes.specs.Blank.{one_digits, one_exponent, filled}
use Rattle.mk_passes.specs.Parts.{AreBlankOrFull, HaveRoom, MakesPlusOfPairs, StandListed}

-- Of two arrays the first `count` listed cells are as S says, and the others are as they were.
pub record AreMade (S : ℕ → ℕ → ℕ → Type 0) (listed : List ℕ) (count : ℕ)
    (old_digits old_exponents digits exponents : List ℕ) : Type 0 where
  pub as_many_digits : length digits ≡ length old_digits
  pub as_many_exponents : length exponents ≡ length old_exponents
  pub made : (c : ℕ) → IsAmong listed count c → S c (slice_index digits c) (slice_index exponents c)
  pub digits_left : (c : ℕ) → (IsAmong listed count c → ⊥)
      → slice_index digits c ≡ slice_index old_digits c
  pub exponents_left : (c : ℕ) → (IsAmong listed count c → ⊥)
      → slice_index exponents c ≡ slice_index old_exponents c

-- each of some cells can be made, and has its place in two arrays
pub record CanPut (can : ℕ → Type 0) (listed digits exponents : List ℕ) : Type 0 where
  pub each : All can listed
  pub digits_reach : All (λ c. c < length digits) listed
  pub exponents_reach : All (λ c. c < length exponents) listed

-- each run is one cell, and there are n
abbrev pub AreSingles : ℕ → ℕ → List ℕ → Type 0
AreSingles n run offsets = (n ≤ 64) × (1 ≤ n) × (run ≤ 1) × (length offsets ≡ n)

-- there are n cells of a table that is written, or of one that is not
abbrev pub AreWritten : ℕ → List ℕ → List ℕ → List ℕ → Type 0
AreWritten n digits onto offsets = (n ≤ 64) × (length offsets ≡ n) × (length onto ≤ length digits)

abbrev pub AreBlank : ℕ → List ℕ → List ℕ → List ℕ → Type 0
AreBlank n digits onto offsets = (n ≤ 64) × (length offsets ≡ n) × (length digits < length onto)

-- the plus of the runs that begin so far from a cell's base can be made
pub record CanAdd (digits exponents bases offsets : List ℕ) (run cell : ℕ) : Type 0 where
  pub known : cell < length bases
  pub some : 1 ≤ run
  pub few : length (runs_of run offsets) ≤ max_clique_cells
  pub within : All (λ c. slice_index bases cell + c < length digits) (runs_of run offsets)
  pub room : (k : ℕ) × HaveRoom k digits exponents (2 * length (runs_of run offsets))

-- digits and an exponent stand for the plus of the listed cells, whatever numbers these stand for
abbrev pub MakesPlus : (ℕ → ℕ → ℕ) → List ℕ → List ℕ → List ℕ → List ℕ → ℕ → ℕ → ℕ → Type 0
MakesPlus plus digits exponents bases listed cell digit exponent =
    (k : ℕ) (f : ℕ → ℕ) (n : ℕ)
    → StandListed k digits exponents f n (slice_index bases cell) listed
    → StandsAt k digit exponent
    (plus_over plus 0 (λ c. f (slice_index bases cell + c)) listed) (n + (2 * length listed - 1))

-- the plus of the products of a cell can be made
pub record CanMultiply (digits exponents onto other_digits other_exponents bases offsets : List ℕ)
    (cell : ℕ) : Type 0 where
  pub known : cell < length bases
  pub few : length offsets ≤ max_clique_cells
  pub within : All (λ c. slice_index bases cell + c < length onto) offsets
  pub reached : All (λ d. d < length other_digits) onto
  pub whole : AreBlankOrFull (length onto) digits exponents
  pub room : (k : ℕ) × HaveRoom k (filled one_digits (length onto) digits)
      (filled one_exponent (length onto) exponents) (2 * length offsets)
  pub other_room : (k : ℕ) × HaveRoom k other_digits other_exponents 1

-- digits and an exponent stand for it
abbrev pub MakesProducts : (ℕ → ℕ → ℕ) → List ℕ → List ℕ → List ℕ → List ℕ → List ℕ
    → List ℕ → List ℕ → ℕ → ℕ → ℕ → Type 0
MakesProducts plus digits exponents onto other_digits other_exponents bases offsets cell
    digit exponent =
    MakesPlusOfPairs plus (filled one_digits (length onto) digits)
    (filled one_exponent (length onto) exponents) other_digits other_exponents
    (slice_index onto) (cells_at (slice_index bases cell) offsets) (2 * length offsets + 1) digit exponent
