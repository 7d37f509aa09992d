-- The cliques and the links of a market file.
use Rattle.std.specs.Prelude.{ℕ, ◌-◌, ℤ, nat_abs, List, length, map, Bool, ◌||◌, not, nat_lt, Option}
use Rattle.std.specs.List.{list_all}
use Rattle.mk_net.specs.Drafts.{DraftOfVariable}
use Rattle.mk_net.specs.Firsts.{fault_if}
use Rattle.mk_sets.specs.Sets.{set_of}
use Rattle.mk_net.specs.Checked.{number_of, has_double}
use Rattle.mk_tree.specs.Given.{GivenTree}
use Rattle.mk_tree.specs.declared.fault.TreeFault.{TreeFault}
use Rattle.mk_tree.specs.declared.fault.TreeFault.TheVariants.{Cover as TreeCover, NotRunning as TreeNotRunning, Cells as TreeCells, Memory as TreeMemory}
use Rattle.mk_file.specs.declared.fault.FileFault.{FileFault}
use Rattle.mk_file.specs.declared.fault.FileFault.TheVariants.{Clique, Link, Cover, NotRunning, Cells, Memory}
use Rattle.mk_file.specs.Walk.{DraftOfMarket}
use Rattle.mk_file.specs.Counts.{is_whole_within}

-- a variable has the name
abbrev pub is_known : List DraftOfVariable → List ℕ → Bool
is_known variables name = nat_lt (number_of variables name) (length variables)

-- clique k holds names of variables alone, and none twice
abbrev pub clique_at : DraftOfMarket → ℕ → List (List ℕ) → Option FileFault
clique_at draft k names = fault_if (not (list_all (is_known draft.variables) names) || has_double names) (Clique k)

-- clique k is linked to an earlier one
abbrev pub link_at : ℕ → ℤ → Option FileFault
link_at k z = fault_if (not (is_whole_within 1 (k - 1) z)) (Link k)

-- the tree of a draft without these faults
abbrev pub given_tree : DraftOfMarket → GivenTree
given_tree draft = record {
  cliques = map (λ (names : List (List ℕ)). set_of (map (number_of draft.variables) names)) draft.cliques;
  links = map nat_abs draft.links;
}

-- a fault of the tree, as the file's
abbrev pub of_tree : TreeFault → FileFault
of_tree (TreeCover variable) = Cover variable
of_tree (TreeNotRunning variable) = NotRunning variable
of_tree (TreeCells clique) = Cells clique
of_tree TreeMemory = Memory
