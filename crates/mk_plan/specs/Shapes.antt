-- The shape of a flow: a tree of cliques, and the scopes of its cliques, their cores and the separators.
use Rattle.std.specs.Prelude.{◌≡◌, ◌≢◌, ℕ, ◌+◌, ◌-◌, ◌<◌, ◌≤◌, ◌&&◌, List, [], ◌++◌, map, length, filter, Bool, max, slice_index, slice_index_or}
use Rattle.std.specs.List.{range_with_len, list_any}
use Rattle.mk_net.specs.Network.{Variable, IsNetwork, sizes}
use Rattle.mk_sums.specs.Cells.{keep}
use Rattle.mk_sums.specs.Joint.{variables}
use Rattle.mk_sums.specs.Trees.{linked, linked_to, hop, behind}
use Rattle.mk_scope.specs.Scopes.{ScopeOf, cells_in}
use Rattle.mk_tree.specs.Given.{GivenTree, holds, link_of}
use Rattle.mk_tree.specs.Checked.{IsTreeOf}

-- Cliques are numbered from 1; the separator of a clique, from 2 on, is the one between it and its link.
pub record ShapeOf : Type 0 where
  pub tree : GivenTree
  pub cliques : List ScopeOf
  pub cores : List ScopeOf
  pub separators : List ScopeOf

abbrev pub no_scope : ScopeOf
no_scope = record { variables = []; sizes = [] }

abbrev pub clique_scope : ShapeOf → ℕ → ScopeOf
clique_scope shape k = slice_index_or shape.cliques (k - 1) no_scope

abbrev pub core_scope : ShapeOf → ℕ → ScopeOf
core_scope shape k = slice_index_or shape.cores (k - 1) no_scope

abbrev pub separator_scope : ShapeOf → ℕ → ScopeOf
separator_scope shape k = slice_index_or shape.separators (k - 2) no_scope

-- the scope of the separator between two cliques that are linked
abbrev pub separator_between : ShapeOf → ℕ → ℕ → ScopeOf
separator_between shape a b = separator_scope shape (max a b)

-- a clique of the tree
pub record IsClique (tree : GivenTree) (k : ℕ) : Type 0 where
  pub first : 1 ≤ k
  pub last : k ≤ length tree.cliques

-- two cliques of the tree are linked
abbrev pub are_linked : GivenTree → ℕ → ℕ → Bool
are_linked tree a b = linked (link_of tree) (length tree.cliques) a b

-- the first clique on the way from one to another
abbrev pub next_on_way : GivenTree → ℕ → ℕ → ℕ
next_on_way tree a b = hop (link_of tree) (length tree.cliques) a b

-- the next cliques on the ways from the cliques from 1 on, so many of them, to a clique; it says nothing of the way from itself
pub record AreNextTo (tree : GivenTree) (to count : ℕ) (next : List ℕ) : Type 0 where
  pub long : length next ≡ count
  pub next_is : (from : ℕ) → 1 ≤ from → from ≤ count → from ≢ to → slice_index next (from - 1) ≡ next_on_way tree from to

-- clique k lies on a's side of the link between a and b
abbrev pub is_behind : GivenTree → ℕ → ℕ → ℕ → Bool
is_behind tree a b k = behind (link_of tree) (length tree.cliques) a b k

-- the cliques that are linked to a clique, in rising order
abbrev pub neighbours : GivenTree → ℕ → List ℕ
neighbours tree k = filter (linked_to (link_of tree) (length tree.cliques) k) (range_with_len 1 (length tree.cliques))

-- the core of a clique: its variables that a neighbour holds too
abbrev pub in_core : GivenTree → ℕ → ℕ → Bool
in_core tree k x = holds tree k x && list_any (λ i. holds tree i x) (neighbours tree k)

-- the variables that a clique shares with its link
abbrev pub shares : GivenTree → ℕ → ℕ → Bool
shares tree k x = holds tree k x && holds tree (link_of tree k) x

-- the scope of a network's variables in a set
abbrev pub scope_within : List Variable → (ℕ → Bool) → ScopeOf
scope_within network set =
    let held = keep set (variables (sizes network)) in
    record { variables = held; sizes = map (slice_index (sizes network)) held }

-- how many cells a clique has
abbrev pub clique_cells : List Variable → GivenTree → ℕ → ℕ
clique_cells network tree k = cells_in (scope_within network (holds tree k))

-- the shape of a network's tree
pub record IsShapeFor (shape : ShapeOf) (network : List Variable) : Type 0 where
  pub legal : IsNetwork network
  pub tree_is : IsTreeOf network shape.tree
  pub one_each : length shape.cliques ≡ length shape.tree.cliques
  pub one_core_each : length shape.cores ≡ length shape.tree.cliques
  pub one_less : length shape.separators + 1 ≡ length shape.tree.cliques
  pub clique_scopes : (k : ℕ) → IsClique shape.tree k → clique_scope shape k ≡ scope_within network (holds shape.tree k)
  pub core_scopes : (k : ℕ) → IsClique shape.tree k → core_scope shape k ≡ scope_within network (in_core shape.tree k)
  pub separator_scopes : (k : ℕ) → IsClique shape.tree k → 1 < k → separator_scope shape k ≡ scope_within network (shares shape.tree k)

-- the scopes of a flow's tables, in their order
abbrev pub all_scopes : List ScopeOf → List ScopeOf → List ScopeOf → List ScopeOf
all_scopes cliques cores separators = cliques ++ cores ++ cores ++ separators ++ separators

abbrev pub scopes_of : ShapeOf → List ScopeOf
scopes_of shape = all_scopes shape.cliques shape.cores shape.separators

-- a scope for each clique and its core, and one fewer for the separators
pub record HasEach (shape : ShapeOf) : Type 0 where
  pub one_each : length shape.cliques ≡ length shape.tree.cliques
  pub one_core_each : length shape.cores ≡ length shape.tree.cliques
  pub one_less : length shape.separators + 1 ≡ length shape.tree.cliques
