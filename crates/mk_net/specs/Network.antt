-- Networks of variables: what each layer knows of the questions of a market.
use Rattle.std.specs.Prelude.{◌≡◌, ◌≢◌, ℕ, ◌*◌, ◌<◌, ◌≤◌, List, [], ◌∷◌, length, map, sum, All, slice_index, slice_index_or}
use Rattle.std.specs.List.{AllPairs}
use Rattle.mk_names.specs.Name.{IsName}
use Rattle.mk_net.specs.Bounds.{max_variables, max_values, max_parents, million}

-- a variable: its name, the names of its values, its parents' numbers, and one row for each list of the parents' values
pub record Variable : Type 0 where
  pub name : List ℕ
  pub values : List (List ℕ)
  pub parents : List ℕ
  pub rows : List (List ℕ)

-- the numbers of values of the variables, in order
abbrev pub sizes : List Variable → List ℕ
sizes network = map (λ (v : Variable). length v.values) network

-- how many lists of values some variables have together
abbrev pub choices : List ℕ → List ℕ → ℕ
choices values [] = 1
choices values (p ∷ parents) = slice_index values p * choices values parents

-- a row gives each value a share of a million
pub record IsRow (values : ℕ) (row : List ℕ) : Type 0 where
  pub one_each : length row ≡ values
  pub whole : sum row ≡ million

-- no two items of a list are the same
abbrev pub AreDistinct : {X : Type 0} → List X → Type 0
AreDistinct {X} xs = AllPairs (λ (x y : X). x ≢ y) xs

-- variable number k, where `values` has the number of values of each variable
pub record IsVariable (values : List ℕ) (k : ℕ) (v : Variable) : Type 0 where
  pub name : IsName v.name
  pub two_values : 2 ≤ length v.values
  pub few_values : length v.values ≤ max_values
  pub values_named : All IsName v.values
  pub values_distinct : AreDistinct v.values
  pub few_parents : length v.parents ≤ max_parents
  pub parents_earlier : All (λ p. p < k) v.parents
  pub parents_distinct : AreDistinct v.parents
  pub one_row_each : length v.rows ≡ choices values v.parents
  pub rows_fit : All (IsRow (length v.values)) v.rows

-- the names of the variables, in order
abbrev pub names : List Variable → List (List ℕ)
names network = map (λ (v : Variable). v.name) network

-- a network: 1 to 256 variables of different names, each with earlier ones as parents
pub record IsNetwork (network : List Variable) : Type 0 where
  pub some : 1 ≤ length network
  pub few : length network ≤ max_variables
  pub names_distinct : AreDistinct (names network)
  pub each : (k : ℕ) (d : Variable) → k < length network → IsVariable (sizes network) k (slice_index_or network k d)
