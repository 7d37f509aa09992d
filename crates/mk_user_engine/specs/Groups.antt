-- Groups of named variables: where each factor reads one group, the least product is the product
-- of the groups' least values.
use Rattle.std.specs.Prelude.{◌≡◌, ℕ, ◌<◌, ◌≤◌, if◌then◌else◌, List, All, map, length}
use Rattle.std.specs.Prelude.{slice_index}
use Rattle.mk_net.specs.declared.words.Pair.{Pair}
use Rattle.mk_states.specs.States.{states, plus_over, product_by}
use Rattle.mk_states.specs.InitialWeight.{value_at}
use Rattle.mk_states.specs.Events.{holds}
use Rattle.mk_sums.specs.Sums.{Within}
use Rattle.mk_cell.specs.Least.{least}
use Rattle.mk_cell.specs.Passes.{plus_below}
use Rattle.mk_user_engine.specs.declared.names.Named.{Named}
use Rattle.mk_user_engine.specs.Names.{is_named, value_in, agrees, AreStrided, IsSized}
use Rattle.mk_user_engine.specs.Grouped.{AreDisjoint}
use Rattle.mk_user_engine.specs.Narrow.{Agree}
use Rattle.mk_user_engine.specs.Laws.{IsPairIn}

-- a factor of a group, with the variables that the group names and their cells
pub record GroupFactor : Type 0 where
  pub names : List Named
  pub cells : ℕ
  pub factor : (ℕ → ℕ) → ℕ

-- the factor reads no other variable
pub record IsGroupFactor (sizes : List ℕ) (g : GroupFactor) : Type 0 where
  pub strided : AreStrided 1 g.names g.cells
  pub sized : All (IsSized sizes) g.names
  pub reads : Within (is_named g.names) g.factor

-- the least value of a group's factor, over the cells that agree with some pairs
abbrev pub least_of : List Pair → GroupFactor → ℕ
least_of pairs g = plus_below least g.cells
    (λ c. if agrees g.names pairs c then g.factor (value_in g.names c) else 0)

-- The least product, over all states with some pairs, of factors of groups that have no variable
-- in common is the product of their least values, where each variable has a value and no two
-- pairs contradict each other.
abbrev pub GroupsMultiply : Type 0
GroupsMultiply = (sizes : List ℕ) (groups : List GroupFactor) (pairs : List Pair)
    → ((x : ℕ) → x < length sizes → 1 ≤ slice_index sizes x)
    → All (IsGroupFactor sizes) groups → AreDisjoint (map (λ (g : GroupFactor). g.names) groups)
    → All (IsPairIn sizes) pairs → Agree pairs
    → plus_over least 0
    (λ s. if holds pairs s
    then product_by (λ (g : GroupFactor). g.factor (value_at s)) groups else 0)
    (states sizes)
    ≡ product_by (least_of pairs) groups
