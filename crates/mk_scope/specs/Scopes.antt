-- Scopes of tables: some variables in rising order, with their numbers of values.
use Rattle.std.specs.Prelude.{◌≡◌, ℕ, ◌<◌, ◌≤◌, ⊤, List, [], ◌∷◌, map, length, All, Bool, true, ◌==◌, slice_index, slice_index_or}
use Rattle.std.specs.List.{position_or_len}
use Rattle.mk_net.specs.declared.words.Pair.{Pair}
use Rattle.mk_net.specs.Asked.{TradeRatio}
use Rattle.mk_net.specs.Bounds.{max_clique_cells}
use Rattle.mk_sets.specs.Sets.{VarSet, is_member}
use Rattle.mk_net.specs.Network.{Variable, sizes}
use Rattle.mk_sums.specs.Sums.{listed}
use Rattle.mk_sums.specs.Cells.{keep, cells}
use Rattle.mk_sums.specs.Joint.{variables}

pub record ScopeOf : Type 0 where
  pub variables : List ℕ
  pub sizes : List ℕ

-- a whole, and a part of it whose cells are looked for there
pub record PlacesOf : Type 0 where
  pub whole : ScopeOf
  pub part : ScopeOf

-- each variable is below the next
abbrev pub Rising : List ℕ → Type 0
Rising [] = ⊤
Rising (x ∷ xs) = All (λ y. x < y) xs × Rising xs

-- how many values a variable of the scope has
abbrev pub size_in : ScopeOf → ℕ → ℕ
size_in scope x = slice_index_or scope.sizes (position_or_len (λ y. y == x) scope.variables) 1

-- how many cells a table over the scope has
abbrev pub cells_in : ScopeOf → ℕ
cells_in scope = cells (size_in scope) scope.variables

-- variables in rising order, each with at least one value, and at most as many cells as a clique may have
pub record IsScope (scope : ScopeOf) : Type 0 where
  pub rising : Rising scope.variables
  pub one_size_each : length scope.sizes ≡ length scope.variables
  pub positive : All (λ n. 1 ≤ n) scope.sizes
  pub few_cells : cells_in scope ≤ max_clique_cells

-- the scope of a set of a network's variables
abbrev pub scope_of : List Variable → VarSet → ScopeOf
scope_of network set =
    let held = keep (is_member set) (variables (sizes network)) in
    record { variables = held; sizes = map (slice_index (sizes network)) held }

-- the scope has the variable
abbrev pub has_variable : ScopeOf → ℕ → Bool
has_variable scope x = listed scope.variables x

-- each variable of a scope is one of another, with the same number of values
abbrev pub LiesIn : ScopeOf → ScopeOf → Type 0
LiesIn part whole = (x : ℕ) → has_variable part x ≡ true → (has_variable whole x ≡ true) × (size_in part x ≡ size_in whole x)

-- the scope has each variable of an event
abbrev pub HasEvent : ScopeOf → List Pair → Type 0
HasEvent scope event = All (λ (p : Pair). has_variable scope p.variable ≡ true) event

-- a ratio has one number for each value that its variable has in the scope
abbrev pub HasOneEach : ScopeOf → TradeRatio → Type 0
HasOneEach scope ratio = length ratio.factors ≡ size_in scope ratio.variable

-- the scope has a network's variable, with as many values as there
pub record HasSized (network : List Variable) (scope : ScopeOf) (x : ℕ) : Type 0 where
  pub there : has_variable scope x ≡ true
  pub sized : size_in scope x ≡ slice_index (sizes network) x
