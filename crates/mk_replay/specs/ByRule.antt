-- Histories whose users can be paid by rule, and those whose variables are all resolved.
use Rattle.std.specs.Prelude.{◌≡◌, ℕ, ◌<◌, List, true, length}
use Rattle.std.specs.List.{AllByRecursion}
use Rattle.mk_net.specs.declared.words.Pair.{Pair}
use Rattle.mk_net.specs.Events.{speaks_of}
use Rattle.mk_net.specs.Network.{Variable, sizes}
use Rattle.mk_states.specs.States.{IsState}
use Rattle.mk_exact.specs.History.{Entry, users, resolutions}
use Rattle.mk_exact.specs.Proper.{IsProper}
use Rattle.mk_exact.specs.Existing.{IsWithinBounds}
use Rattle.mk_rules.specs.Bounded.{FitsTransfer}

-- a proper history within the bounds, whose transfers are of users who joined, and a state of its
-- network
pub record CanBePaid (H : List Entry) (state : List ℕ) : Type 0 where
  pub network : List Variable
  pub proper : IsProper network H
  pub within : IsWithinBounds H
  pub transfers_fit : AllByRecursion (FitsTransfer (length (users H))) H
  pub is_state : IsState (sizes network) state

-- the history resolved these pairs, which give each variable of the network a value
pub record AreResolved (network : List Variable) (H : List Entry) (known : List Pair)
    (variables : ℕ) : Type 0 where
  pub resolved : resolutions H ≡ known
  pub one_each : length network ≡ variables
  pub all : (v : ℕ) → v < variables → speaks_of known v ≡ true
