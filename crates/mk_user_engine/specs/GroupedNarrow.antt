-- The narrow form with groups: ratios and known pairs in their order, and groups of the variables
-- that the ratios name.
use Rattle.std.specs.Prelude.{◌≡◌, ℕ, false, List, ◌++◌, All, Some, length, ◌≤◌}
use Rattle.mk_net.specs.declared.words.Pair.{Pair}
use Rattle.mk_net.specs.Asked.{TradeRatio, ratio_pairs}
use Rattle.mk_net.specs.Events.{AreApart}
use Rattle.mk_net.specs.Network.{Variable, IsNetwork, sizes}
use Rattle.mk_states.specs.OfNetwork.{IsRatioOf}
use Rattle.mk_states.specs.States.{product_by}
use Rattle.mk_cell.specs.Least.{least}
use Rattle.mk_table.specs.Tables.{contradicts}
use Rattle.mk_tree.specs.Given.{GivenTree, home}
use Rattle.mk_tree.specs.Checked.{IsTreeOf}
use Rattle.mk_engine.specs.Meaning.{Meaning, exact_belief, ArePairsOf}
use Rattle.mk_user_engine.specs.declared.group.Group.{Group}
use Rattle.mk_user_engine.specs.declared.groups.Groups.{Groups}
use Rattle.mk_user_engine.specs.declared.narrow.PlacedRatio.{PlacedRatio}
use Rattle.mk_user_engine.specs.Narrow.{Agree, ArePlacedPairs, ratio_in, factors_of}
use Rattle.mk_user_engine.specs.Grouped.{HasGroups, IsGathered, KeepsTogether, max_groups}
use Rattle.mk_user_engine.specs.LeastShared.{least_in}

-- a ratio in its home, whose variables one group names
pub record IsGroupedRatio (network : List Variable) (tree : GivenTree) (groups : List Group)
    (placed : PlacedRatio) : Type 0 where
  pub home_is : home tree (ratio_pairs (ratio_in placed)) ≡ Some placed.home
  pub of_network : IsRatioOf network (ratio_in placed)
  pub gathered : IsGathered groups (ratio_in placed)

-- the lists are a meaning's ratios, and its known pairs
pub record AreGrouped (gs : Groups) (ts : List PlacedRatio) (ks : List Pair) (homes : List ℕ)
    (m : Meaning) : Type 0 where
  pub legal : IsNetwork m.network
  pub tree : IsTreeOf m.network m.tree
  pub factors_are : m.factors ≡ factors_of ts
  pub known_are : m.known ≡ ks
  pub groups : HasGroups (sizes m.network) gs
  pub trades : All (IsGroupedRatio m.network m.tree gs.list.items) ts
  pub few_trades : length ts ≤ max_groups
  pub pairs : ArePlacedPairs m.network m.tree ks homes
  pub agree : Agree ks

-- The exact belief in an event that no known pair contradicts is the product of the groups' least
-- products.
abbrev pub BeliefIsShared : Type 0
BeliefIsShared = (groups : Groups) (trades : List PlacedRatio) (known : List Pair)
    (homes : List ℕ) (m : Meaning) (event : List Pair)
    → AreGrouped groups trades known homes m
    → ArePairsOf m.network event → AreApart event → contradicts known event ≡ false
    → exact_belief least m event ≡ product_by (least_in trades (known ++ event)) groups.list.items

-- A ratio whose variables one group names stays so, where groups keep together what they name.
abbrev pub GatheredStay : Type 0
GatheredStay = (old new : List Group) (ratio : TradeRatio) → KeepsTogether old new
    → IsGathered old ratio → IsGathered new ratio
