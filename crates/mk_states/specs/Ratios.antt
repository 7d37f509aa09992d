-- The ratio of a trade: by how many units it multiplies the weight of a state.
use Rattle.std.specs.Prelude.{ℕ, ◌^◌, List, slice_index, if◌then◌else◌}
use Rattle.mk_net.specs.declared.words.Pair.{Pair}
use Rattle.mk_net.specs.Asked.{TradeRatio}
use Rattle.mk_states.specs.InitialWeight.{value_at}
use Rattle.mk_states.specs.Events.{holds}

-- a ratio of this many units leaves a weight as it was
abbrev pub unit : ℕ
unit = 2 ^ 40

-- the units for each value of its variable
abbrev pub units_of : TradeRatio → ℕ → ℕ
units_of r value = slice_index r.factors value

-- the units for the state's value where the condition holds, and one whole unit where it does not
abbrev pub ratio_at : TradeRatio → List ℕ → ℕ
ratio_at r s = if holds r.condition s then units_of r (value_at s r.variable) else unit
