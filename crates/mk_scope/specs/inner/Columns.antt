-- How a scope keeps the values of its cells: a column of values for each variable, all columns end to end.
use Rattle.std.specs.Prelude.{◌≡◌, ℕ, ◌+◌, ◌-◌, ◌<◌, ◌≤◌, List, length, true, slice_index}
use Rattle.mk_sums.specs.Sums.{listed}
use Rattle.mk_sums.specs.Cells.{cells, place}
use Rattle.mk_scope.specs.Scopes.{ScopeOf, IsScope, size_in, cells_in}

-- The column of a listed variable starts where `starts` says, and has the value that each cell gives the variable. `starts`
-- lists the variables from `first` on.
pub record IsColumn (size : ℕ → ℕ) (variables : List ℕ) (first : ℕ) (starts columns : List ℕ) (x c : ℕ) : Type 0 where
  pub reached : first ≤ x
  pub started : x - first < length starts
  pub within : slice_index starts (x - first) + c < length columns
  pub value : slice_index columns (slice_index starts (x - first) + c) ≡ place size variables c (λ y. 0) x

-- each of some variables has its column
abbrev pub HaveColumns : (ℕ → ℕ) → List ℕ → List ℕ → ℕ → List ℕ → List ℕ → Type 0
HaveColumns size variables some first starts columns =
    (x c : ℕ) → listed some x ≡ true → c < cells size variables → IsColumn size variables first starts columns x c

-- a scope as it is kept
pub record IsKept (scope : ScopeOf) (count first : ℕ) (starts columns : List ℕ) : Type 0 where
  pub scope_is : IsScope scope
  pub counted : count ≡ cells_in scope
  pub have : HaveColumns (size_in scope) scope.variables scope.variables first starts columns
