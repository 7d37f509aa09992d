-- The walk over a document: each key there and of its kind, or the first that is not; its place is 0 at the top, or a
-- variable's number from 1.
use Rattle.std.specs.Prelude.{ℕ, ◌+◌, ℤ, pos, Bool, false, List, [], ◌∷◌, Option, Some, None, option_map, option_and_then, Result, Ok, Err}
use Rattle.toml.specs.Data.{Data, Items, no_items, item, Members, get_member, as_str, as_integer, as_bool, as_array, as_table}
use Rattle.mk_file.specs.declared.fault.FileFault.{FileFault}
use Rattle.mk_file.specs.declared.fault.FileFault.TheVariants.{Missing, WrongType}
use Rattle.mk_names.specs.declared.key.Key.{Key}
use Rattle.mk_names.specs.declared.key.Key.TheVariants.{PointsPerBit, MaxTrades, MaxUsers, MaxTransfers, Variable, Cliques, Links, Zeros, Name, Values, Parents, Rows}
use Rattle.mk_names.specs.Key.{key_text}
use Rattle.mk_net.specs.Bounds.{usual_users, usual_transfers}
use Rattle.mk_net.specs.Drafts.{DraftOfVariable}

-- what a document says, once each key is there and of its kind
pub record DraftOfMarket : Type 0 where
  pub points_per_bit : ℤ
  pub max_trades : ℤ
  pub max_users : ℤ
  pub max_transfers : ℤ
  pub variables : List DraftOfVariable
  pub cliques : List (List (List ℕ))
  pub links : List ℤ
  pub zeros : Bool

-- each item is of a kind
abbrev pub all_of : {X : Type 0} → (Data → Option X) → Items → Option (List X)
all_of kind no_items = Some []
all_of kind (item d ds) = option_and_then (λ x. option_map (λ xs. x ∷ xs) (all_of kind ds)) (kind d)

-- a list of items of a kind
abbrev pub list_of : {X : Type 0} → (Data → Option X) → Data → Option (List X)
list_of kind d = option_and_then (all_of kind) (as_array d)

abbrev pub texts : Data → Option (List (List ℕ))
texts d = list_of as_str d

abbrev pub wholes : Data → Option (List ℤ)
wholes d = list_of as_integer d

-- a value that was found at a key, by its kind
abbrev pub of_kind : {X : Type 0} → Key → ℕ → Option X → Result X FileFault
of_kind key place None = Err (WrongType key place)
of_kind key place (Some x) = Ok x

abbrev pub found : {X : Type 0} → Key → ℕ → (Data → Option X) → Option Data → Result X FileFault
found key place kind None = Err (Missing key place)
found key place kind (Some d) = of_kind key place (kind d)

-- the value of a key that has to be there
abbrev pub required : {X : Type 0} → Key → ℕ → (Data → Option X) → Members → Result X FileFault
required key place kind table = found key place kind (get_member (key_text key) table)

-- the value of a key that may be absent, and stands for another then
abbrev pub found_or : {X : Type 0} → X → Key → ℕ → (Data → Option X) → Option Data → Result X FileFault
found_or absent key place kind None = Ok absent
found_or absent key place kind (Some d) = of_kind key place (kind d)

abbrev pub optional : {X : Type 0} → X → Key → ℕ → (Data → Option X) → Members → Result X FileFault
optional absent key place kind table = found_or absent key place kind (get_member (key_text key) table)

-- goes on with a value, unless there was a fault
abbrev pub then_with : {X Y : Type 0} → Result X FileFault → (X → Result Y FileFault) → Result Y FileFault
then_with (Ok x) go = go x
then_with (Err fault) go = Err fault

-- the variable of one table
abbrev pub variable_in : ℕ → Members → Result DraftOfVariable FileFault
variable_in place table =
    then_with (required Name place as_str table) (λ name.
    then_with (required Values place texts table) (λ values.
    then_with (required Parents place texts table) (λ parents.
    then_with (required Rows place (list_of wholes) table) (λ rows.
    Ok (record { name = name; values = values; parents = parents; rows = rows })))))

-- the variables of the tables, from a number on
abbrev pub variables_in : ℕ → List Members → Result (List DraftOfVariable) FileFault
variables_in place [] = Ok []
variables_in place (table ∷ tables) =
    then_with (variable_in place table) (λ variable.
    then_with (variables_in (place + 1) tables) (λ variables. Ok (variable ∷ variables)))

-- what a document says, or the first key that is missing or of another kind: the top keys first, then the variables. Three of them
-- may be absent: `max_users` and `max_transfers` are the usual numbers then, and `zeros` is false.
abbrev pub draft_in : Members → Result DraftOfMarket FileFault
draft_in document =
    then_with (required PointsPerBit 0 as_integer document) (λ points_per_bit.
    then_with (required MaxTrades 0 as_integer document) (λ max_trades.
    then_with (optional (pos usual_users) MaxUsers 0 as_integer document) (λ max_users.
    then_with (optional (pos usual_transfers) MaxTransfers 0 as_integer document) (λ max_transfers.
    then_with (required Variable 0 (list_of as_table) document) (λ tables.
    then_with (required Cliques 0 (list_of texts) document) (λ cliques.
    then_with (required Links 0 wholes document) (λ links.
    then_with (optional false Zeros 0 as_bool document) (λ zeros.
    then_with (variables_in 1 tables) (λ variables.
    Ok (record {
      points_per_bit = points_per_bit;
      max_trades = max_trades;
      max_users = max_users;
      max_transfers = max_transfers;
      variables = variables;
      cliques = cliques;
      links = links;
      zeros = zeros;
    }))))))))))
