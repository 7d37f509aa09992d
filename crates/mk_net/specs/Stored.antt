-- The variable that is kept in a network's map, under its name.
use Rattle.std.specs.Prelude.{◌≡◌, ℕ, List, map}
use Rattle.mk_net.specs.declared.network.StoredVariable.{StoredVariable}
use Rattle.mk_net.specs.Network.{Variable, IsNetwork}
use Rattle.mk_net.specs.Zeros.{with_zeros}

abbrev pub variable_of : List ℕ × StoredVariable → Variable
variable_of (name, v) = record { name = name; values = v.values.keys; parents = v.parents.items; rows = map (λ row. row.items) v.rows.items }

abbrev pub variables_of : List (List ℕ × StoredVariable) → List Variable
variables_of entries = map variable_of entries

-- a network is kept with the variables that have a share of nothing
pub record IsKept (variables : List Variable) (listed : List ℕ) : Type 0 where
  pub network : IsNetwork variables
  pub zeros : listed ≡ with_zeros variables
