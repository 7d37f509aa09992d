-- What is kept of groups: the least product of the trades of each.
use Rattle.std.specs.Prelude.{◌≡◌, ℕ, ◌*◌, ◌<◌, true, false, List, length, slice_index_or}
use Rattle.mk_net.specs.declared.words.Pair.{Pair}
use Rattle.mk_cell.specs.Cell.{StandsAt, IsOwnAt}
use Rattle.mk_user_engine.specs.declared.group.Group.{Group}
use Rattle.mk_user_engine.specs.declared.kept.KeptLeast.{KeptLeast}
use Rattle.mk_user_engine.specs.declared.narrow.PlacedRatio.{PlacedRatio}
use Rattle.mk_user_engine.specs.Names.{value_in, agrees}
use Rattle.mk_user_engine.specs.Narrow.{is_met}
use Rattle.mk_user_engine.specs.Shared.{ratios_of}
use Rattle.mk_user_engine.specs.LeastShared.{least_in}

-- how many trades a group has
abbrev pub trades_in : List PlacedRatio → Group → ℕ
trades_in trades g = length (ratios_of trades g)

-- A cell stands for the least product of a group's trades over its cells that agree with some
-- pairs; where none of these meets a condition, also for one of its own.
pub record HasGroupLeast (trades : List PlacedRatio) (pairs : List Pair) (g : Group)
    (kept : KeptLeast) : Type 0 where
  pub stands : StandsAt (40 * trades_in trades g) kept.least.digits kept.least.exponent
      (least_in trades pairs g) (trades_in trades g)
  pub own : kept.met ≡ false
      → IsOwnAt (40 * trades_in trades g) kept.least.digits kept.least.exponent
      (least_in trades pairs g) (trades_in trades g)
  pub met_is : kept.met ≡ true
      → (c : ℕ) × (c < g.cells) × (agrees g.names.items pairs c ≡ true)
      × (is_met (ratios_of trades g) (value_in g.names.items c) ≡ true)

-- the least of each group is kept, over what is known
pub record AreKept (groups : List Group) (trades : List PlacedRatio) (known : List Pair)
    (kept : List KeptLeast) : Type 0 where
  pub one_each : length kept ≡ length groups
  pub each : (k : ℕ) (g : Group) (l : KeptLeast) → k < length groups
      → HasGroupLeast trades known (slice_index_or groups k g) (slice_index_or kept k l)
