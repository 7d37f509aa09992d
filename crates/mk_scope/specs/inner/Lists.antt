-- Lists of cells in arrays with room for each cell of a table.
use Rattle.std.specs.Prelude.{ℕ, ◌≤◌}
use Rattle.mk_net.specs.Bounds.{max_clique_cells}

-- what is listed lies in the places that are written, and there is room for each cell
pub record IsWithinRoom (listed written room : ℕ) : Type 0 where
  pub listed_written : listed ≤ written
  pub few : written ≤ max_clique_cells
  pub roomy : max_clique_cells ≤ room
