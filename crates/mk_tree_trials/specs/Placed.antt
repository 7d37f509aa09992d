-- What the trials keep of a flow.
use Rattle.std.specs.Prelude.{◌≡◌, ℕ, Bool, List, length}
use Rattle.std.specs.List.{list_all}
use Rattle.mk_net.specs.Network.{Variable}
use Rattle.mk_sets.specs.Sets.{VarSet, is_member}
use Rattle.mk_propagate.specs.Placings.{Placing}
use Rattle.mk_propagate.specs.Flows.{FlowOf, HasPlaced, AreRightTowards, AreRightInto}

-- a set has each of some variables
abbrev pub has_all : VarSet → List ℕ → Bool
has_all set variables = list_all (is_member set) variables

-- so many factors of a network are placed
pub record HasSome (plus : ℕ → ℕ → ℕ) (flow : FlowOf) (network : List Variable) (count : ℕ) : Type 0 where
  pub placing : Placing
  pub has : HasPlaced plus flow placing
  pub of_network : placing.network ≡ network
  pub counted : length placing.factors ≡ count

-- so many factors of a network are placed, and each message towards a clique is right
pub record IsCollected (plus : ℕ → ℕ → ℕ) (flow : FlowOf) (network : List Variable) (count clique : ℕ) : Type 0 where
  pub some : HasSome plus flow network count
  pub towards : AreRightTowards plus flow some.placing clique

-- so many factors of a network are placed, and each message into a clique is right
pub record IsReady (plus : ℕ → ℕ → ℕ) (flow : FlowOf) (network : List Variable) (count clique : ℕ) : Type 0 where
  pub some : HasSome plus flow network count
  pub right : AreRightInto plus flow some.placing clique

-- what was placed still is, and so are the messages that were right
pub record KeepsReady (plus : ℕ → ℕ → ℕ) (old new : FlowOf) : Type 0 where
  pub collected : (network : List Variable) (count clique : ℕ) → IsCollected plus old network count clique → IsCollected plus new network count clique
  pub ready : (network : List Variable) (count clique : ℕ) → IsReady plus old network count clique → IsReady plus new network count clique
