-- How a shape is kept: beside the scopes, where the separators' cells lie in the cores at their ends and the cores' cells in their cliques and in themselves, the
-- list of each clique's neighbours, for each clique the next cliques on the ways there, and for each variable where to look for its home.
use Rattle.std.specs.Prelude.{◌≡◌, ℕ, ◌+◌, ◌-◌, ◌<◌, ◌≤◌, Bool, true, false, if◌then◌else◌, List, [], map, length, slice_index, slice_index_or}
use Rattle.std.specs.List.{range_with_len}
use Rattle.mk_sets.specs.Sets.{VarSet, is_member}
use Rattle.mk_net.specs.Network.{Variable}
use Rattle.mk_scope.specs.Scopes.{ScopeOf, PlacesOf, LiesIn}
use Rattle.mk_tree.specs.Given.{GivenTree, AreLinked, clique_at, holds, link_of}
use Rattle.mk_plan.specs.Shapes.{ShapeOf, IsClique, AreNextTo, clique_scope, core_scope, separator_scope, scopes_of, neighbours, scope_within, in_core, shares}

-- the scopes of the cliques from 1 on, so many of them
abbrev pub scopes_of_cliques : List Variable → GivenTree → ℕ → List ScopeOf
scopes_of_cliques network tree count = map (λ k. scope_within network (holds tree k)) (range_with_len 1 count)

-- the scopes of their cores, so many of them
abbrev pub scopes_of_cores : List Variable → GivenTree → ℕ → List ScopeOf
scopes_of_cores network tree count = map (λ k. scope_within network (in_core tree k)) (range_with_len 1 count)

-- the scopes of the separators from clique 2's on, so many of them
abbrev pub scopes_of_separators : List Variable → GivenTree → ℕ → List ScopeOf
scopes_of_separators network tree count = map (λ k. scope_within network (shares tree k)) (range_with_len 2 count)

-- the lists of the neighbours of the cliques from 1 on, so many of them
abbrev pub lists_of_neighbours : GivenTree → ℕ → List (List ℕ)
lists_of_neighbours tree count = map (neighbours tree) (range_with_len 1 count)

-- a list of them for each of the cliques from 1 on, so many of them
pub record AreWays (tree : GivenTree) (count : ℕ) (ways : List (List ℕ)) : Type 0 where
  pub long : length ways ≡ count
  pub way_is : (to : ℕ) → 1 ≤ to → to ≤ count → AreNextTo tree to (length tree.cliques) (slice_index_or ways (to - 1) [])

-- a clique from which on to look for the first that passes a test: none before it does
pub record StartsAt (tree : GivenTree) (test : VarSet → Bool) (start : ℕ) : Type 0 where
  pub first : 1 ≤ start
  pub before : (k : ℕ) → 1 ≤ k → k < start → test (clique_at tree k) ≡ false

-- one for each of some variables
abbrev pub AreStarts : GivenTree → List ℕ → Type 0
AreStarts tree starts = (x : ℕ) → x < length starts → StartsAt tree (λ set. is_member set x) (slice_index starts x)

abbrev pub shape_of : GivenTree → List ScopeOf → List ScopeOf → List ScopeOf → ShapeOf
shape_of tree cliques cores separators = record { tree = tree; cliques = cliques; cores = cores; separators = separators }

-- a clique, or its link
abbrev pub whole_of : GivenTree → Bool → ℕ → ℕ
whole_of tree in_link k = if in_link then link_of tree k else k

-- the places of the separators from clique 2's on, so many of them, in the cores of their cliques or in those of the links
abbrev pub places_of : ShapeOf → Bool → ℕ → List PlacesOf
places_of shape in_link count =
    map (λ k. record { whole = core_scope shape (whole_of shape.tree in_link k); part = separator_scope shape k }) (range_with_len 2 count)

-- there is a scope for each core and each separator, and each separator's lies in the core's of its clique, or of the link
pub record CanPlaceSeparators (shape : ShapeOf) (in_link : Bool) : Type 0 where
  pub one_each : length shape.cores ≡ length shape.tree.cliques
  pub one_less : length shape.separators + 1 ≡ length shape.tree.cliques
  pub lie : (k : ℕ) → IsClique shape.tree k → 1 < k → LiesIn (separator_scope shape k) (core_scope shape (whole_of shape.tree in_link k))

-- the places of the cores of the cliques from 1 on, so many of them
abbrev pub core_places_of : ShapeOf → ℕ → List PlacesOf
core_places_of shape count = map (λ k. record { whole = clique_scope shape k; part = core_scope shape k }) (range_with_len 1 count)

-- there is a scope for each clique and each core, and each core's lies in its clique's
pub record CanPlaceCores (shape : ShapeOf) : Type 0 where
  pub one_each : length shape.cliques ≡ length shape.tree.cliques
  pub one_core_each : length shape.cores ≡ length shape.tree.cliques
  pub lie : (k : ℕ) → IsClique shape.tree k → LiesIn (core_scope shape k) (clique_scope shape k)

pub record IsShaped (shape : ShapeOf) (scopes : List ScopeOf) (in_cliques in_links in_whole in_itself : List PlacesOf) (neighbour_lists ways : List (List ℕ)) (starts : List ℕ) : Type 0 where
  pub linked : AreLinked shape.tree
  pub scopes_are : scopes ≡ scopes_of shape
  pub in_cliques_are : in_cliques ≡ places_of shape false (length shape.tree.cliques - 1)
  pub in_links_are : in_links ≡ places_of shape true (length shape.tree.cliques - 1)
  pub in_whole_are : in_whole ≡ core_places_of shape (length shape.tree.cliques)
  pub in_itself_are : in_itself ≡ core_places_of (shape_of shape.tree shape.cores shape.cores []) (length shape.tree.cliques)
  pub one_each : length shape.cliques ≡ length shape.tree.cliques
  pub one_core_each : length shape.cores ≡ length shape.tree.cliques
  pub one_less : length shape.separators + 1 ≡ length shape.tree.cliques
  pub neighbours_are : neighbour_lists ≡ lists_of_neighbours shape.tree (length shape.tree.cliques)
  pub ways_are : AreWays shape.tree (length shape.tree.cliques) ways
  pub starts_are : AreStarts shape.tree starts
