-- Pairs that an engine learns.
use Rattle.std.specs.Prelude.{◌≡◌, List, ◌++◌}
use Rattle.mk_net.specs.declared.words.Pair.{Pair}
use Rattle.mk_tree.specs.Given.{GivenTree}
use Rattle.mk_tree.specs.Checked.{IsTreeOf}
use Rattle.mk_engine.specs.Meaning.{Meaning, ArePairsOf}

-- a meaning where these pairs are known too
abbrev pub with_all_known : List Pair → Meaning → Meaning
with_all_known pairs m = record {
  network = m.network;
  tree = m.tree;
  factors = m.factors;
  known = m.known ++ pairs;
}

-- the engine stands for a meaning over this tree, which is one of its network, and these are pairs
-- of that
pub record CanKnowAll {E : Type 0} (stands_for : E → Meaning → Type 0) (engine : E)
    (tree : GivenTree) (pairs : List Pair) : Type 0 where
  pub meaning : Meaning
  pub stands : stands_for engine meaning
  pub of_tree : meaning.tree ≡ tree
  pub tree_of_it : IsTreeOf meaning.network tree
  pub in_range : ArePairsOf meaning.network pairs
