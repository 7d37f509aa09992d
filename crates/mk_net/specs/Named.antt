-- The pair that two words name in a network.
use Rattle.std.specs.Prelude.{ℕ, List, [], Option, option_map, option_and_then, slice_index_or, position, find}
use Rattle.std.specs.List.{enumerate_from}
use Rattle.mk_net.specs.declared.words.Pair.{Pair}
use Rattle.mk_net.specs.declared.words.PairText.{PairText}
use Rattle.mk_net.specs.Network.{Variable}
use Rattle.mk_names.specs.Texts.{same_text}

abbrev pub nobody : Variable
nobody = record { name = []; values = []; parents = []; rows = [] }

-- variable number k
abbrev pub variable_at : List Variable → ℕ → Variable
variable_at network k = slice_index_or network k nobody

-- the number of a value of this name
abbrev pub value_named : List ℕ → ℕ × Variable → Option Pair
value_named value (k, v) = option_map (λ (x : ℕ). record { variable = k; value = x }) (position (same_text value) v.values)

-- the first variable of this name with its number
abbrev pub variable_named : List Variable → List ℕ → Option (ℕ × Variable)
variable_named network name = find (λ (numbered : ℕ × Variable). same_text name (numbered.1).name) (enumerate_from 0 network)

-- the pair that the words name, or none where the variable or the value is unknown
abbrev pub pair_named : List Variable → PairText → Option Pair
pair_named network p = option_and_then (value_named p.value) (variable_named network p.variable)
