-- The most that the operator can lose in an outcome that is left: the cash of one over its initial probability.
use Rattle.std.specs.Prelude.{ℕ, ◌+◌, ◌-◌, ◌*◌, ◌^◌, ◌<◌, ◌≤◌, List, Option, nat_lt, if◌then◌else◌}
use Rattle.mk_net.specs.Bounds.{number_limit}
use Rattle.mk_net.specs.Network.{Variable}
use Rattle.mk_states.specs.InitialWeight.{initial_weight}
use Rattle.mk_states.specs.Events.{always}
use Rattle.mk_exact.specs.History.{Entry}
use Rattle.mk_exact.specs.Weight.{possible_states}
use Rattle.mk_exact.specs.Factors.{least_by}
use Rattle.mk_exact.specs.Cash.{IsCash}

-- the least initial weight of the possible states; none where there is no such state
abbrev pub least_weight : List Variable → List Entry → Option ℕ
least_weight network H = least_by (initial_weight network) (possible_states network H always)

-- the ends of a bound are near by one part in so many
abbrev pub nearness : ℕ → ℕ
nearness total = if nat_lt total number_limit then 2 ^ 58 else 2 ^ 42

-- low .. high, in points, covers the cash of the total initial weight over the least one: were this quotient less by one part in so
-- many, its cash would be at most low, and were it greater by that, at least high
pub record CoversBound (total least b low high : ℕ) : Type 0 where
  pub cash : ℕ
  pub is_cash : IsCash (record { num = total; den = least }) b cash
  pub above : low ≤ cash
  pub below : cash ≤ high
  pub low_near : total ^ b * (nearness total - 1) ^ b < 2 ^ (low + 1) * nearness total ^ b * least ^ b
  pub high_near : 2 ^ high * (nearness total - 1) ^ b * least ^ b ≤ total ^ b * nearness total ^ b
