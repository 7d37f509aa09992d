-- Sound histories: nobody can go bankrupt, and the operator's loss is bounded.
use Rattle.std.specs.Prelude.{ℕ, ◌*◌, ◌^◌, ◌≤◌, List, All, length}
use Rattle.mk_net.specs.Network.{Variable}
use Rattle.mk_states.specs.InitialWeight.{initial_total}
use Rattle.mk_states.specs.Events.{always}
use Rattle.mk_states.specs.Ratios.{unit}
use Rattle.mk_exact.specs.History.{Entry, trades}
use Rattle.mk_exact.specs.Weight.{total, possible_states}
use Rattle.mk_exact.specs.Factors.{factor, IsAtLeastOne}

-- each user's factor is at least one in each possible state, and the total weight per unit has not risen
pub record IsSound (network : List Variable) (H : List Entry) : Type 0 where
  pub solvent : (u : ℕ) → All (λ s. IsAtLeastOne (factor H u s)) (possible_states network H always)
  pub bounded : total network H always ≤ initial_total network * unit ^ length (trades H)
