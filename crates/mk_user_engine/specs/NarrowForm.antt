-- What the narrow form stands for.
use Rattle.std.specs.Prelude.{◌≡◌, ℕ, ◌<◌, ◌≤◌, true, List, All, Some, length, vec_capacity}
use Rattle.mk_net.specs.declared.words.Pair.{Pair}
use Rattle.mk_net.specs.Asked.{TradeRatio, ratio_pairs}
use Rattle.mk_states.specs.OfNetwork.{IsRatioOf}
use Rattle.mk_scope.specs.Scopes.{ScopeOf, HasSized}
use Rattle.mk_tree.specs.Given.{home}
use Rattle.mk_engine.specs.Meaning.{Meaning}
use Rattle.mk_user_engine.specs.declared.narrow.Narrow.{Narrow}
use Rattle.mk_user_engine.specs.Narrow.{max_trades, max_known}
use Rattle.mk_user_engine.specs.Grouped.{max_groups, names}
use Rattle.mk_user_engine.specs.declared.group.Group.{Group}
use Rattle.mk_user_engine.specs.GroupedNarrow.{AreGrouped}
use Rattle.mk_user_engine.specs.Kept.{AreKept}

-- as much as was reserved
pub record HaveRoom (n : Narrow) : Type 0 where
  pub kept : max_groups ≤ vec_capacity n.kept
  pub trades : max_trades ≤ vec_capacity n.trades
  pub known : max_known ≤ vec_capacity n.known
  pub homes : max_known ≤ vec_capacity n.homes

-- its lists are a meaning's ratios, and its known pairs; where it says so, the least of each group
-- is kept
pub record IsNarrow (n : Narrow) (m : Meaning) : Type 0 where
  pub grouped : AreGrouped n.groups n.trades.items n.known.items n.homes.items m
  pub kept : n.is_kept ≡ true
      → AreKept n.groups.list.items n.trades.items n.known.items n.kept.items
  pub room : HaveRoom n

-- the meaning may have the ratio, and the scope each variable of its condition
pub record CanTake (n : Narrow) (scope : ScopeOf) (at : ℕ) (ratio : TradeRatio)
    (m : Meaning) : Type 0 where
  pub stands : IsNarrow n m
  pub of_network : IsRatioOf m.network ratio
  pub home_is : home m.tree (ratio_pairs ratio) ≡ Some at
  pub sized : All (λ (p : Pair). HasSized m.network scope p.variable) ratio.condition

-- the meaning may have the ratio
pub record CanHold (n : Narrow) (at : ℕ) (ratio : TradeRatio) (m : Meaning) : Type 0 where
  pub stands : IsNarrow n m
  pub of_network : IsRatioOf m.network ratio
  pub home_is : home m.tree (ratio_pairs ratio) ≡ Some at

-- a group names each variable of a ratio
pub record IsHeldIn (groups : List Group) (place : ℕ) (ratio : TradeRatio) : Type 0 where
  pub within : place < length groups
  pub variable : names groups place ratio.variable ≡ true
  pub condition : All (λ (p : Pair). names groups place p.variable ≡ true) ratio.condition
