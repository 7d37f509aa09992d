-- Cliques as a checked network reads them.
use Rattle.std.specs.Prelude.{◌≡◌, ℕ, ◌<◌, List, length, map, Bool, true, ◌||◌, not, nat_lt, [], ◌∷◌, Option, option_map}
use Rattle.std.specs.List.{list_all, position_or_len}
use Rattle.mk_sets.specs.Sets.{VarSet, is_member, set_of}
use Rattle.mk_names.specs.Texts.{same_text}
use Rattle.mk_net.specs.Network.{Variable}
use Rattle.mk_net.specs.Firsts.{fault_if, first_of, first_in}
use Rattle.mk_net.specs.Checked.{has_double, checked_network}
use Rattle.mk_tree.specs.Tests.{tree_fault}
use Rattle.mk_file.specs.Walk.{DraftOfMarket}
use Rattle.mk_file.specs.Cliques.{clique_at, link_at, given_tree, of_tree}
use Rattle.mk_file.specs.declared.fault.FileFault.{FileFault}
use Rattle.mk_file.specs.declared.fault.FileFault.TheVariants.{Clique}

-- the number of the first variable of a name
abbrev pub number_in : List Variable → List ℕ → ℕ
number_in network name = position_or_len (λ (v : Variable). same_text name v.name) network

abbrev pub is_known_in : List Variable → List ℕ → Bool
is_known_in network name = nat_lt (number_in network name) (length network)

-- a name is unknown, or stands twice
abbrev pub is_bad_clique : List Variable → List (List ℕ) → Bool
is_bad_clique network names = not (list_all (is_known_in network) names) || has_double names

abbrev pub clique_in : List Variable → ℕ → List (List ℕ) → Option FileFault
clique_in network k names = fault_if (is_bad_clique network names) (Clique k)

-- the variables of some names
abbrev pub set_in : List Variable → List (List ℕ) → VarSet
set_in network names = set_of (map (number_in network) names)

-- a set of the network's variables alone
abbrev pub IsSetOf : List Variable → VarSet → Type 0
IsSetOf network set = (x : ℕ) → is_member set x ≡ true → x < length network

-- the first fault of the cliques, the links and the tree
abbrev pub trees_fault : DraftOfMarket → Option FileFault
trees_fault draft = first_of (
    first_in (clique_at draft) 1 draft.cliques
    ∷ first_in link_at 2 draft.links
    ∷ option_map of_tree (tree_fault (checked_network draft.variables) (given_tree draft))
    ∷ [])
