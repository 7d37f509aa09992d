-- The law of shares: what a state that can come picks from the rows.
use Rattle.std.specs.Prelude.{ℕ, ◌<◌, ◌≤◌, List, length, All}
use Rattle.mk_net.specs.Bounds.{million}
use Rattle.mk_net.specs.Network.{Variable, IsNetwork}
use Rattle.mk_states.specs.InitialWeight.{all_states, entry, initial_weight}

-- each share of a state is 1 to a million, and each initial weight at least 1
pub record HasShares (network : List Variable) (s : List ℕ) : Type 0 where
  pub shares : (k : ℕ) → k < length network → (1 ≤ entry network k s) × (entry network k s ≤ million)
  pub weight : 1 ≤ initial_weight network s

abbrev pub SharesPositive : Type 0
SharesPositive = (network : List Variable) → IsNetwork network → All (HasShares network) (all_states network)
