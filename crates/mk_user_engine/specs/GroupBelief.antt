-- The product of what several groups have.
use Rattle.std.specs.Prelude.{◌≡◌, ℕ, ◌+◌, ◌*◌, ◌≤◌, true, false, List, sum_by}
use Rattle.std.specs.List.{Contains}
use Rattle.mk_net.specs.declared.words.Pair.{Pair}
use Rattle.mk_states.specs.States.{product_by}
use Rattle.mk_cell.specs.Cell.{StandsAt, IsOwnAt}
use Rattle.mk_user_engine.specs.declared.group.Group.{Group}
use Rattle.mk_user_engine.specs.declared.kept.KeptLeast.{KeptLeast}
use Rattle.mk_user_engine.specs.declared.narrow.PlacedRatio.{PlacedRatio}
use Rattle.mk_user_engine.specs.Names.{value_in, agrees}
use Rattle.mk_user_engine.specs.Narrow.{is_met}
use Rattle.mk_user_engine.specs.Grouped.{max_groups}
use Rattle.mk_user_engine.specs.Shared.{ratios_of}
use Rattle.mk_user_engine.specs.LeastShared.{least_in}
use Rattle.mk_user_engine.specs.Kept.{HasGroupLeast, trades_in}

-- how many trades groups have
abbrev pub trades_of : List PlacedRatio → List Group → ℕ
trades_of trades groups = sum_by (trades_in trades) groups

-- in a cell of one of some groups, which agrees with some pairs, the condition of a trade holds
abbrev pub MeetsOne : List PlacedRatio → List Pair → List Group → Type 0
MeetsOne trades pairs groups = (g : Group) × Contains groups g × (c : ℕ)
    × (agrees g.names.items pairs c ≡ true)
    × (is_met (ratios_of trades g) (value_in g.names.items c) ≡ true)

-- A cell stands for the product of groups' least products, in two steps at most for each of their
-- trades; where no condition is met, also for one of its own.
pub record HasLeastOver (trades : List PlacedRatio) (pairs : List Pair) (groups : List Group)
    (kept : KeptLeast) : Type 0 where
  pub stands : StandsAt (40 * trades_of trades groups) kept.least.digits kept.least.exponent
      (product_by (least_in trades pairs) groups) (2 * trades_of trades groups)
  pub own : kept.met ≡ false
      → IsOwnAt (40 * trades_of trades groups) kept.least.digits kept.least.exponent
      (product_by (least_in trades pairs) groups) (2 * trades_of trades groups)
  pub met_is : kept.met ≡ true → MeetsOne trades pairs groups

-- what is multiplied is of some groups and of one more, which have few trades
pub record CanMultiplyOne (product one : KeptLeast) : Type 0 where
  pub trades : List PlacedRatio
  pub pairs : List Pair
  pub groups : List Group
  pub group : Group
  pub so_far : HasLeastOver trades pairs groups product
  pub has_one : HasGroupLeast trades pairs group one
  pub few : trades_of trades groups + trades_in trades group ≤ max_groups
