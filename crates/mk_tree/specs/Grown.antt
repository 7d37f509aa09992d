-- The tree of a network with one variable more.
use Rattle.std.specs.Prelude.{◌≡◌, ◌≢◌, ℕ, ◌+◌, ◌<◌, ◌≤◌, List, [], ◌∷◌, ◌++◌, length, true, All}
use Rattle.std.specs.Prelude.{sum_by}
use Rattle.mk_sets.specs.Sets.{VarSet, is_member}
use Rattle.mk_net.specs.Bounds.{max_clique_cells, max_cells}
use Rattle.mk_net.specs.Network.{Variable}
use Rattle.mk_tree.specs.Given.{GivenTree, max_tree_cliques, holds}
use Rattle.mk_tree.specs.Tests.{cells_of}
use Rattle.mk_tree.specs.Checked.{IsTreeOf}

-- a tree with one clique behind the others, linked to clique k
abbrev pub with_clique : GivenTree → VarSet → ℕ → GivenTree
with_clique t clique k = record { cliques = t.cliques ++ clique ∷ []; links = t.links ++ k ∷ [] }

-- a clique of one more variable, behind the network, may be linked to clique k
pub record FitsBehind (network : List Variable) (v : Variable) (t : GivenTree) (clique : VarSet)
    (k : ℕ) : Type 0 where
  -- fewer cliques are there than there may be
  pub few : length t.cliques < max_tree_cliques
  -- clique k is one of the tree's
  pub first : 1 ≤ k
  pub last : k ≤ length t.cliques
  -- the new clique holds the variable
  pub own : is_member clique (length network) ≡ true
  -- it holds the variable's parents
  pub parents : All (λ p. is_member clique p ≡ true) v.parents
  -- clique k holds its other variables
  pub shared : (x : ℕ) → is_member clique x ≡ true → x ≢ length network → holds t k x ≡ true
  -- it has as few cells as a clique may have
  pub small : cells_of (network ++ v ∷ []) clique ≤ max_clique_cells
  -- with it there are as few cells as there may be
  pub room : sum_by (cells_of network) t.cliques + cells_of (network ++ v ∷ []) clique ≤ max_cells

-- a network is that of a tree and one more variable, and a clique of this variable fits behind the
-- tree
pub record IsBehind (net : List Variable) (t : GivenTree) (clique : VarSet) (k : ℕ) : Type 0 where
  pub earlier : List Variable
  pub added : Variable
  pub longer : net ≡ earlier ++ added ∷ []
  pub tree : IsTreeOf earlier t
  pub fits : FitsBehind earlier added t clique k
