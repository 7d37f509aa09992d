-- Cells that are found by strides: variable by variable, the last first.
use Rattle.std.specs.Prelude.{◌≡◌, ℕ, ◌+◌, ◌-◌, ◌*◌, ◌<◌, ◌≤◌, Bool, not, ◌||◌, ◌==◌, if◌then◌else◌, List, [], ◌∷◌, map, filter, length, drop, All}
use Rattle.std.specs.List.{flat_map, list_all}
use Rattle.mk_net.specs.Bounds.{max_clique_cells}
use Rattle.mk_net.specs.declared.words.Pair.{Pair}
use Rattle.mk_states.specs.States.{numbers_below}
use Rattle.mk_sums.specs.Cells.{cells}
use Rattle.mk_scope.specs.Scopes.{ScopeOf, size_in, has_variable}

-- some numbers, a stride further on for each of some values
abbrev pub repeated : ℕ → List ℕ → List ℕ → List ℕ
repeated stride values low = flat_map (λ v. map (λ c. v * stride + c) low) values

-- they lie within a stride, and that many strides fit in a table
pub record MayRepeat (stride size : ℕ) (low : List ℕ) : Type 0 where
  pub below : All (λ c. c < stride) low
  pub few : length low ≤ stride
  pub fits : size * stride ≤ max_clique_cells
  pub some : 1 ≤ size

-- the cells that give each variable one of the values that it may have
abbrev pub cells_with : (ℕ → ℕ) → (ℕ → List ℕ) → List ℕ → List ℕ
cells_with size values [] = 0 ∷ []
cells_with size values (x ∷ xs) = repeated (cells size xs) (values x) (cells_with size values xs)

-- whether some pairs let a variable have a value
abbrev pub lets : List Pair → ℕ → ℕ → Bool
lets pairs x v = list_all (λ (p : Pair). not (p.variable == x) || v == p.value) pairs

-- the values that some pairs let a variable of the scope have
abbrev pub values_let : ScopeOf → List Pair → ℕ → List ℕ
values_let scope pairs x = filter (lets pairs x) (numbers_below (size_in scope x))

-- the variable is one of a part, or else is none of it
abbrev pub is_moved : ScopeOf → Bool → ℕ → Bool
is_moved part inside x = if inside then has_variable part x else not (has_variable part x)

-- each value of a variable that moves, and the first one of another
abbrev pub values_moved : ScopeOf → ScopeOf → Bool → ℕ → List ℕ
values_moved whole part inside x = if is_moved part inside x then numbers_below (size_in whole x) else 0 ∷ []

-- the last variables of a scope may have each of their values, so that their cells are the first ones, side by side
pub record IsTail (scope : ScopeOf) (values : ℕ → List ℕ) (count run : ℕ) : Type 0 where
  pub within : count ≤ length scope.variables
  pub counted : run ≡ cells (size_in scope) (drop (length scope.variables - count) scope.variables)
  pub free : cells_with (size_in scope) values (drop (length scope.variables - count) scope.variables) ≡ numbers_below run
