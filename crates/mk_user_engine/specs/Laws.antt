-- Variables that nothing reads drop out of a least value.
use Rattle.std.specs.Prelude.{◌≡◌, ℕ, ◌<◌, ◌≤◌, if◌then◌else◌, List, All, length, slice_index}
use Rattle.mk_net.specs.declared.words.Pair.{Pair}
use Rattle.mk_states.specs.States.{states, plus_over}
use Rattle.mk_states.specs.InitialWeight.{value_at}
use Rattle.mk_states.specs.Events.{holds}
use Rattle.mk_sums.specs.Sums.{Within}
use Rattle.mk_cell.specs.Least.{least}
use Rattle.mk_cell.specs.Passes.{plus_below}
use Rattle.mk_user_engine.specs.declared.names.Named.{Named}
use Rattle.mk_user_engine.specs.Names.{is_named, value_in, agrees, AreStrided, IsSized}
use Rattle.mk_user_engine.specs.Narrow.{Agree}

-- a pair of a variable and one of its values
pub record IsPairIn (sizes : List ℕ) (p : Pair) : Type 0 where
  pub variable : p.variable < length sizes
  pub value : p.value < slice_index sizes p.variable

-- The least value, over all states with some pairs, of what reads named variables alone is the
-- least over their cells that
-- agree with the pairs, where each variable has a value and no two pairs contradict each other.
abbrev pub UnreadDropOut : Type 0
UnreadDropOut = (sizes : List ℕ) (names : List Named) (cells : ℕ) (pairs : List Pair) (f : (ℕ → ℕ)
    → ℕ)
    → ((x : ℕ) → x < length sizes → 1 ≤ slice_index sizes x)
    → AreStrided 1 names cells → All (IsSized sizes) names → Within (is_named names) f
    → All (IsPairIn sizes) pairs → Agree pairs
    → plus_over least 0 (λ s. if holds pairs s then f (value_at s) else 0) (states sizes)
    ≡ plus_below least cells (λ c. if agrees names pairs c then f (value_in names c) else 0)
