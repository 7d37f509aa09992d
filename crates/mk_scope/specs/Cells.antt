-- The cells of a table. A cell's number counts the values of the scope's variables, the last variable's changing fastest.
use Rattle.std.specs.Prelude.{ℕ, List, ◌==◌, filter, length}
use Rattle.mk_net.specs.declared.words.Pair.{Pair}
use Rattle.mk_states.specs.States.{numbers_below}
use Rattle.mk_sums.specs.Cells.{cell_of, place}
use Rattle.mk_sums.specs.There.{holds_there}
use Rattle.mk_scope.specs.Scopes.{ScopeOf, size_in, cells_in}

-- the values of a cell; 0 for each other variable
abbrev pub values_at : ScopeOf → ℕ → ℕ → ℕ
values_at scope c = place (size_in scope) scope.variables c (λ x. 0)

-- the cell of another scope that has the values of a cell
abbrev pub cell_in : ScopeOf → ScopeOf → ℕ → ℕ
cell_in part whole c = cell_of (size_in part) part.variables (values_at whole c)

-- the cells that have the values of a cell of another scope
abbrev pub cells_onto : ScopeOf → ScopeOf → ℕ → List ℕ
cells_onto part whole d = filter (λ c. cell_in part whole c == d) (numbers_below (cells_in whole))

-- how many cells of a whole have the values of one cell of a part
abbrev pub cells_beside : ScopeOf → ScopeOf → ℕ
cells_beside part whole = length (cells_onto part whole 0)

-- the cells where an event holds
abbrev pub cells_where : ScopeOf → List Pair → List ℕ
cells_where scope event = filter (λ c. holds_there event (values_at scope c)) (numbers_below (cells_in scope))

-- a list of cells, as it is kept
pub record ListedCells : Type 0 where
  pub items : List ℕ
