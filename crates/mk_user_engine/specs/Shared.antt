-- The ratios of each group: a ratio is in the group that names its variable.
use Rattle.std.specs.Prelude.{◌≡◌, ℕ, List, All, filter}
use Rattle.mk_states.specs.States.{product_by}
use Rattle.mk_user_engine.specs.declared.group.Group.{Group}
use Rattle.mk_user_engine.specs.declared.narrow.PlacedRatio.{PlacedRatio}
use Rattle.mk_user_engine.specs.Names.{is_named}
use Rattle.mk_user_engine.specs.Narrow.{ratio_in, product_of}
use Rattle.mk_user_engine.specs.Grouped.{AreDisjoint, names_of, IsGathered}

-- the ratios whose variables a group names
abbrev pub ratios_of : List PlacedRatio → Group → List PlacedRatio
ratios_of trades g =
    filter (λ (t : PlacedRatio). is_named g.names.items (ratio_in t).variable) trades

-- The product of all ratios is that of the groups' products, where each ratio's variables are
-- named in one group.
abbrev pub RatiosAreShared : Type 0
RatiosAreShared = (groups : List Group) (trades : List PlacedRatio) (a : ℕ → ℕ)
    → AreDisjoint (names_of groups)
    → All (λ (t : PlacedRatio). IsGathered groups (ratio_in t)) trades
    → product_by (λ (g : Group). product_of (ratios_of trades g) a) groups ≡ product_of trades a
