-- The least product of ratios, from what the groups of their variables have.
use Rattle.std.specs.Prelude.{◌≡◌, ℕ, ◌<◌, ◌≤◌, if◌then◌else◌, List, All, length, slice_index}
use Rattle.mk_net.specs.declared.words.Pair.{Pair}
use Rattle.mk_states.specs.States.{states, plus_over, product_by}
use Rattle.mk_states.specs.InitialWeight.{value_at}
use Rattle.mk_states.specs.Events.{holds}
use Rattle.mk_cell.specs.Least.{least}
use Rattle.mk_cell.specs.Passes.{plus_below}
use Rattle.mk_user_engine.specs.declared.group.Group.{Group}
use Rattle.mk_user_engine.specs.declared.narrow.PlacedRatio.{PlacedRatio}
use Rattle.mk_user_engine.specs.Names.{value_in, agrees}
use Rattle.mk_user_engine.specs.Narrow.{Agree, ratio_in, product_of}
use Rattle.mk_user_engine.specs.Laws.{IsPairIn}
use Rattle.mk_user_engine.specs.Grouped.{AreDisjoint, names_of, IsGathered, IsGroup}
use Rattle.mk_user_engine.specs.Shared.{ratios_of}

-- the least product of a group's ratios, over its cells that agree with some pairs
abbrev pub least_in : List PlacedRatio → List Pair → Group → ℕ
least_in trades pairs g = plus_below least g.cells (λ c. if agrees g.names.items pairs c
    then product_of (ratios_of trades g) (value_in g.names.items c) else 0)

-- The least product of all ratios, over all states with some pairs, is the product of what the
-- groups have, where each ratio's variables are named in one group.
abbrev pub LeastIsShared : Type 0
LeastIsShared = (sizes : List ℕ) (groups : List Group) (trades : List PlacedRatio)
    (pairs : List Pair)
    → ((x : ℕ) → x < length sizes → 1 ≤ slice_index sizes x)
    → All (IsGroup sizes) groups → AreDisjoint (names_of groups)
    → All (λ (t : PlacedRatio). IsGathered groups (ratio_in t)) trades
    → All (IsPairIn sizes) pairs → Agree pairs
    → plus_over least 0 (λ s. if holds pairs s then product_of trades (value_at s) else 0)
    (states sizes)
    ≡ product_by (least_in trades pairs) groups
