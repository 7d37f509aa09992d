-- What a checked tree keeps.
use Rattle.std.specs.Prelude.{◌≡◌, ℕ, ◌<◌, ◌≤◌, List, length, All, true, sum_by}
use Rattle.mk_sets.specs.Sets.{VarSet}
use Rattle.mk_net.specs.Bounds.{max_clique_cells, max_cells}
use Rattle.mk_net.specs.Network.{Variable}
use Rattle.mk_sums.specs.Trees.{Running}
use Rattle.mk_tree.specs.Given.{GivenTree, holds, link_of, AreLinked, AreOfNetwork}
use Rattle.mk_tree.specs.Tests.{is_covered, cells_of}

-- a tree of a network: it covers each variable with its parents, it has running intersection, and its cells are few
pub record IsTreeOf (network : List Variable) (t : GivenTree) : Type 0 where
  pub linked : AreLinked t
  pub of_network : AreOfNetwork network t.cliques
  pub covers : (x : ℕ) → x < length network → is_covered network t.cliques x ≡ true
  pub running : Running (link_of t) (length t.cliques) (holds t)
  pub small_cliques : All (λ (set : VarSet). cells_of network set ≤ max_clique_cells) t.cliques
  pub few_cells : sum_by (cells_of network) t.cliques ≤ max_cells
