-- What a tree is refused for, as tests.
use Rattle.std.specs.Prelude.{ℕ, ◌+◌, ◌-◌, List, [], ◌∷◌, length, filter, Bool, ◌&&◌, ◌||◌, not, nat_lt, if◌then◌else◌, Option, Some, None, option_map, find}
use Rattle.std.specs.List.{list_all, list_any, range_with_len}
use Rattle.mk_net.specs.Bounds.{max_clique_cells, max_cells}
use Rattle.mk_sets.specs.Sets.{VarSet, is_member}
use Rattle.mk_net.specs.Network.{Variable, sizes, choices}
use Rattle.mk_net.specs.Named.{variable_at}
use Rattle.mk_net.specs.Firsts.{first_of}
use Rattle.mk_states.specs.States.{numbers_below}
use Rattle.mk_tree.specs.Given.{GivenTree, holds, link_of}
use Rattle.mk_tree.specs.declared.fault.TreeFault.{TreeFault}
use Rattle.mk_tree.specs.declared.fault.TreeFault.TheVariants.{Cover, NotRunning, Cells}

-- a set holds a variable and its parents
abbrev pub holds_family : List Variable → ℕ → VarSet → Bool
holds_family network x set = is_member set x && list_all (is_member set) (variable_at network x).parents

-- some clique does
abbrev pub is_covered : List Variable → List VarSet → ℕ → Bool
is_covered network cliques x = list_any (holds_family network x) cliques

-- a clique before number k holds the variable
abbrev pub is_held_before : GivenTree → ℕ → ℕ → Bool
is_held_before t x k = list_any (λ (j : ℕ). holds t j x) (range_with_len 1 (k - 1))

-- clique k, where it holds the variable and is not the first to do so, is linked to one that holds it
abbrev pub goes_on : GivenTree → ℕ → ℕ → Bool
goes_on t x k = not (holds t k x && is_held_before t x k) || holds t (link_of t k) x

-- so the cliques that hold the variable are connected: each but the first is linked to another one
abbrev pub are_connected : GivenTree → ℕ → Bool
are_connected t x = list_all (goes_on t x) (range_with_len 1 (length t.cliques))

-- the network's variables in a set, in rising order
abbrev pub members : List Variable → VarSet → List ℕ
members network set = filter (is_member set) (numbers_below (length network))

-- a cell for each list of the values of its variables
abbrev pub cells_of : List Variable → VarSet → ℕ
cells_of network set = choices (sizes network) (members network set)

-- the first clique, from number k on, that has too many cells, or with which there are too many
abbrev pub first_too_large : List Variable → ℕ → ℕ → List VarSet → Option ℕ
first_too_large network k before [] = None
first_too_large network k before (set ∷ sets) =
    if nat_lt max_clique_cells (cells_of network set) || nat_lt max_cells (before + cells_of network set) then Some k
    else first_too_large network (k + 1) (before + cells_of network set) sets

-- the first of the network's variables for which a test fails, numbered from 1
abbrev pub first_failing : List Variable → (ℕ → Bool) → Option ℕ
first_failing network test = option_map (λ (x : ℕ). x + 1) (find (λ (x : ℕ). not (test x)) (numbers_below (length network)))

-- a variable without a clique, then one whose cliques are not connected, then cells
abbrev pub tree_fault : List Variable → GivenTree → Option TreeFault
tree_fault network t = first_of (
    option_map Cover (first_failing network (is_covered network t.cliques))
    ∷ option_map NotRunning (first_failing network (are_connected t))
    ∷ option_map Cells (first_too_large network 1 0 t.cliques)
    ∷ [])
