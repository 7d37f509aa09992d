-- Margins of tables that are made anew where an event allows: what must be right of the other cells already.
use Rattle.std.specs.Prelude.{◌≡◌, ℕ, ◌+◌, ◌-◌, ◌*◌, ◌<◌, false, List, All, slice_index}
use Rattle.mk_net.specs.declared.words.Pair.{Pair}
use Rattle.mk_states.specs.States.{plus_over}
use Rattle.mk_sums.specs.There.{holds_there}
use Rattle.mk_cell.specs.Cell.{StandsAt, IsOwnAt}
use Rattle.mk_scope.specs.Scopes.{cells_in}
use Rattle.mk_scope.specs.Cells.{values_at, cells_onto, cells_beside}
use Rattle.mk_table.specs.Tables.{TableOf, is_touched}

-- But for cells that an event allows, a table over some of the variables of a whole has the pluses of the whole's numbers, under the whole's shift: so has each cell
-- with whose values the event holds nowhere.
pub record IsMarginBut (plus : ℕ → ℕ → ℕ) (event : List Pair) (whole part : TableOf) (f : ℕ → ℕ) (n : ℕ) : Type 0 where
  pub stand : (d : ℕ) → d < cells_in part.scope → All (λ c. holds_there event (values_at whole.scope c) ≡ false) (cells_onto part.scope whole.scope d)
      → StandsAt whole.shift (slice_index part.digits d) (slice_index part.exponents d) (plus_over plus 0 f (cells_onto part.scope whole.scope d)) (n + (2 * cells_beside part.scope whole.scope - 1))
  pub own : (d : ℕ) → d < cells_in part.scope → All (λ c. holds_there event (values_at whole.scope c) ≡ false) (cells_onto part.scope whole.scope d) → is_touched part d ≡ false
      → IsOwnAt whole.shift (slice_index part.digits d) (slice_index part.exponents d) (plus_over plus 0 f (cells_onto part.scope whole.scope d)) (n + (2 * cells_beside part.scope whole.scope - 1))
