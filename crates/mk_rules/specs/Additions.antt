-- What a question that is added to a market is refused for, and what it adds.
use Rattle.std.specs.Prelude.{ℕ, ◌+◌, ◌-◌, List, [], ◌∷◌, ◌++◌, length, sum, sum_by, Bool, not}
use Rattle.std.specs.Prelude.{slice_index_or, ◌==◌, ◌&&◌, ◌||◌, nat_le, nat_lt, if◌then◌else◌}
use Rattle.std.specs.Prelude.{is_none, is_some, Option, option_map, find, filter}
use Rattle.std.specs.List.{list_any, flat_map, filter_map, enumerate_from}
use Rattle.mk_net.specs.Bounds.{max_variables, max_clique_cells, max_cells, million}
use Rattle.mk_names.specs.Texts.{same_text}
use Rattle.mk_net.specs.Network.{Variable, sizes, choices}
use Rattle.mk_net.specs.Named.{variable_named}
use Rattle.mk_net.specs.Firsts.{fault_if}
use Rattle.mk_states.specs.States.{numbers_below}
use Rattle.mk_exact.specs.History.{Addition}
use Rattle.mk_exact.specs.Market.{Market}
use Rattle.mk_addition.specs.declared.add.AddText.{AddText}
use Rattle.mk_reply.specs.declared.refusal.Refusal.{Refusal}
use Rattle.mk_reply.specs.declared.refusal.Refusal.TheVariants.{Variables, Taken}
use Rattle.mk_reply.specs.declared.refusal.Refusal.TheVariants.{NoVariable, Link, Uncovered}
use Rattle.mk_reply.specs.declared.refusal.Refusal.TheVariants.{NotRunning, RowCount, RowWidth, Sum}
use Rattle.mk_reply.specs.declared.refusal.Refusal.TheVariants.{Cells}

-- the number of the variable of a name
abbrev pub number_named : List Variable → List ℕ → Option ℕ
number_named network name =
    option_map (λ (numbered : ℕ × Variable). numbered.0) (variable_named network name)

-- the numbers of those of some names that the network knows, in the same order
abbrev pub numbers_named : List Variable → List (List ℕ) → List ℕ
numbers_named network names = filter_map (number_named network) names

abbrev pub is_among : List (List ℕ) → List ℕ → Bool
is_among names name = list_any (same_text name) names

-- the variable that is added
abbrev pub added_variable : List Variable → AddText → Variable
added_variable network add = record {
  name = add.variable;
  values = add.values.items;
  parents = numbers_named network add.parents.items;
  rows = add.rows.items;
}

-- the network with it
abbrev pub longer_network : List Variable → AddText → List Variable
longer_network network add = network ++ added_variable network add ∷ []

-- the variables of its clique, in rising order
abbrev pub added_clique : List Variable → AddText → List ℕ
added_clique network add =
    let named = numbers_named (longer_network network add) add.clique.items in
    filter (λ v. list_any (λ n. n == v) named) (numbers_below (length network + 1))

-- what is added
abbrev pub addition_of : List Variable → AddText → Addition
addition_of network add = record {
  variable = added_variable network add;
  clique = added_clique network add;
  link = add.link;
}

-- as many variables are held as may be
abbrev pub variables_full : List Variable → Option Refusal
variables_full network =
    fault_if (nat_le max_variables (length network)) (Variables max_variables)

-- a variable has its name
abbrev pub taken : List Variable → List ℕ → Option Refusal
taken network name = fault_if (is_some (variable_named network name)) (Taken name)

-- the first name of a list that neither a variable has nor the added one, if that counts
abbrev pub nobody_named : List Variable → List (List ℕ) → List (List ℕ) → Option Refusal
nobody_named network besides names =
    option_map NoVariable (find (λ name. is_none (variable_named network name)
    && not (is_among besides name)) names)

-- no clique has the number to which it would be linked
abbrev pub no_link : List (List ℕ) → ℕ → Option Refusal
no_link cliques number =
    fault_if (not (nat_le 1 number && nat_le number (length cliques))) (Link number)

-- the first of the variable and its parents that its clique does not hold
abbrev pub uncovered : AddText → Option Refusal
uncovered add = option_map Uncovered
    (find (λ name. not (is_among add.clique.items name)) (add.variable ∷ add.parents.items))

-- a clique holds the variable of a name
abbrev pub holds_named : List Variable → List ℕ → List ℕ → Bool
holds_named network clique name =
    list_any (λ v. list_any (λ w. w == v) clique) (numbers_named network (name ∷ []))

-- the first other name of its clique that is not in the clique to which it would be linked
abbrev pub not_running : Market → AddText → Option Refusal
not_running market add =
    let linked = slice_index_or market.cliques (add.link - 1) [] in
    option_map NotRunning (find (λ name. not (same_text name add.variable)
    && not (holds_named market.network linked name)) add.clique.items)

-- there is not one row for each list of the parents' values
abbrev pub row_count : List Variable → AddText → Option Refusal
row_count network add =
    let lists = choices (sizes network) (numbers_named network add.parents.items) in
    fault_if (not (length add.rows.items == lists)) (RowCount (length add.rows.items))

-- the first row that has not one number for each value
abbrev pub row_width : AddText → Option Refusal
row_width add =
    option_map (λ (numbered : ℕ × List ℕ). RowWidth (numbered.0) (length (numbered.1)))
    (find (λ (numbered : ℕ × List ℕ). not (length (numbered.1) == length add.values.items))
    (enumerate_from 1 add.rows.items))

-- the most that a share of a row may be: all of the million where the market has shares of nothing
abbrev pub most_share : Market → ℕ
most_share market = if market.zeros then million else million - 1

-- all numbers of the rows, in order
abbrev pub shares_of : AddText → List ℕ
shares_of add = flat_map (λ row. row) add.rows.items

-- the first row whose numbers do not make a million
abbrev pub row_sum : AddText → Option Refusal
row_sum add =
    option_map (λ row. Sum (sum row)) (find (λ row. not (sum row == million)) add.rows.items)

-- all cliques have too many cells with the new one, or that alone has
abbrev pub too_large : Market → AddText → Option Refusal
too_large market add =
    let cells = choices (sizes (longer_network market.network add)) in
    let own = cells (added_clique market.network add) in
    let total = sum_by cells market.cliques + own in
    fault_if (nat_lt max_cells total || nat_lt max_clique_cells own) (Cells total)
