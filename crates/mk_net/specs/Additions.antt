-- A question that is added to a network: the variable that it is, and when it may come.
use Rattle.std.specs.Prelude.{◌≡◌, ◌≢◌, ◌<◌, ◌≤◌, List, length, sum, All}
use Rattle.mk_net.specs.Bounds.{max_variables, million}
use Rattle.mk_net.specs.Network.{Variable, sizes, choices, names, AreDistinct}
use Rattle.mk_net.specs.declared.addition.Addition.{Addition}

-- the variable of an addition
abbrev pub variable_of_addition : Addition → Variable
variable_of_addition a =
    record {
      name = a.variable;
      values = a.values.items;
      parents = a.parents.items;
      rows = a.rows.items;
    }

-- the network may be followed by the addition's variable
pub record CanExtend (network : List Variable) (addition : Addition) : Type 0 where
  -- fewer variables are held than there may be
  pub room : length network < max_variables
  -- no variable has its name
  pub untaken : All (λ name. addition.variable ≢ name) (names network)
  -- it has two values or more, and no two of them are equal
  pub two_values : 2 ≤ length addition.values.items
  pub values_distinct : AreDistinct addition.values.items
  -- its parents are variables of the network
  pub parents_known : All (λ p. p < length network) addition.parents.items
  -- no parent stands twice
  pub parents_distinct : AreDistinct addition.parents.items
  -- there is one row for each list of the parents' values
  pub one_row_each : length addition.rows.items ≡ choices (sizes network) addition.parents.items
  -- a row has one number for each value
  pub widths : All (λ row. length row ≡ length addition.values.items) addition.rows.items
  -- the numbers of a row are a million together
  pub sums : All (λ row. sum row ≡ million) addition.rows.items
