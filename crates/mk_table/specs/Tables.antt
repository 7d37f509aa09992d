-- Tables of cells, and which numbers their cells stand for.
use Rattle.std.specs.Prelude.{◌≡◌, ℕ, ◌+◌, ◌<◌, ◌==◌, ◌&&◌, not, Bool, true, false, List, length, slice_index, Option, Some, None}
use Rattle.std.specs.List.{list_any}
use Rattle.mk_net.specs.declared.words.Pair.{Pair}
use Rattle.mk_sums.specs.There.{holds_there}
use Rattle.mk_cell.specs.Cell.{AllStand, IsOwnAt}
use Rattle.mk_scope.specs.Scopes.{ScopeOf}
use Rattle.mk_scope.specs.Cells.{values_at}
use Rattle.mk_passes.specs.Parts.{max_steps, max_shift}

-- a table: its scope, how many places of two its cells are shifted by, the digits and the exponent of each cell, and an
-- event without which no ratio touched a cell; where there is none, no ratio touched any
pub record TableOf : Type 0 where
  pub scope : ScopeOf
  pub shift : ℕ
  pub digits : List ℕ
  pub exponents : List ℕ
  pub touched : Option (List Pair)

-- an event that there may be holds
abbrev pub touches : Option (List Pair) → (ℕ → ℕ) → Bool
touches None a = false
touches (Some event) a = holds_there event a

-- a ratio may have touched the cell
abbrev pub is_touched : TableOf → ℕ → Bool
is_touched t c = touches t.touched (values_at t.scope c)

-- a cell under no shift stands for a number of its own, and its number of f is 2 ^ shift times that
abbrev pub IsOwn : TableOf → (ℕ → ℕ) → ℕ → ℕ → Type 0
IsOwn t f steps c = IsOwnAt t.shift (slice_index t.digits c) (slice_index t.exponents c) (f c) steps

-- Each cell stands for its number of f, after so many steps of rounding; one that no ratio touched also stands for a number
-- of its own.
pub record HasNumbers (t : TableOf) (f : ℕ → ℕ) (steps : ℕ) : Type 0 where
  pub stand : AllStand t.shift t.digits t.exponents f steps
  pub own : (c : ℕ) → c < length t.digits → is_touched t c ≡ false → IsOwn t f steps c

-- one of the pairs gives the pair's variable another value
abbrev pub contradicts_pair : List Pair → Pair → Bool
contradicts_pair pairs pair = list_any (λ (p : Pair). p.variable == pair.variable && not (p.value == pair.value)) pairs

-- a pair of the first event gives a variable another value than one of the second does
abbrev pub contradicts : List Pair → List Pair → Bool
contradicts first second = list_any (contradicts_pair first) second

-- no ratio touched a cell where the event holds
abbrev pub is_untouched_by : Option (List Pair) → List Pair → Bool
is_untouched_by None event = true
is_untouched_by (Some touched) event = contradicts touched event

abbrev pub is_untouched : TableOf → List Pair → Bool
is_untouched t event = is_untouched_by t.touched event

-- there is room for so many steps more
pub record HasRoom (t : TableOf) (more : ℕ) : Type 0 where
  pub numbers : ℕ → ℕ
  pub steps : ℕ
  pub has : HasNumbers t numbers steps
  pub few_steps : steps + more < max_steps
  pub small_shift : t.shift < max_shift
