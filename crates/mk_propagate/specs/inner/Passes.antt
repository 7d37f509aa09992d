-- The passes in which messages are made: those from a clique to its link, or from it to its child, on the way to a clique.
use Rattle.std.specs.Prelude.{◌≡◌, ℕ, ◌+◌, ◌-◌, Bool, true, ◌&&◌, not, ◌==◌, nat_lt, ⊤}
use Rattle.mk_sums.specs.Trees.{sum_of}
use Rattle.mk_tree.specs.Given.{GivenTree}
use Rattle.mk_plan.specs.Shapes.{IsClique, next_on_way}
use Rattle.mk_propagate.specs.Placings.{Placing}
use Rattle.mk_propagate.specs.Flows.{FlowOf, HasPlaced, IsRight, AreRightTowards, AreAllRight}
use Rattle.mk_propagate.specs.declared.pass.Pass.{Pass}
use Rattle.mk_propagate.specs.declared.pass.Pass.TheVariants.{CollectUp, CollectDown, DistributeUp, DistributeDown}

-- the way from clique k to the root begins upward, to its link
abbrev pub leads_up : GivenTree → ℕ → ℕ → Bool
leads_up tree root k = not (k == root) && nat_lt (next_on_way tree k root) k

-- it begins downward, to a clique whose link it is
abbrev pub leads_down : GivenTree → ℕ → ℕ → Bool
leads_down tree root k = not (k == root) && nat_lt k (next_on_way tree k root)

-- how many ways of the first cliques begin so
abbrev pub count_of : (ℕ → Bool) → ℕ → ℕ
count_of set count = sum_of set count (λ k. 1)

-- of the messages towards the root those of some cliques are right
abbrev pub AreRightFrom : (ℕ → ℕ → ℕ) → FlowOf → Placing → ℕ → (ℕ → Type 0) → Type 0
AreRightFrom plus flow p root of_these = (k : ℕ) → IsClique flow.shape.tree k → of_these k → IsRight plus flow p k (next_on_way flow.shape.tree k root)

-- of the messages away from the root those to some cliques are right
abbrev pub AreRightTo : (ℕ → ℕ → ℕ) → FlowOf → Placing → ℕ → (ℕ → Type 0) → Type 0
AreRightTo plus flow p root of_these = (k : ℕ) → IsClique flow.shape.tree k → of_these k → IsRight plus flow p (next_on_way flow.shape.tree k root) k

-- ---- one pass

-- a pass makes a message between clique k and the next one on the way to the root
abbrev pub leads_in : Pass → GivenTree → ℕ → ℕ → Bool
leads_in CollectUp tree root k = leads_up tree root k
leads_in CollectDown tree root k = leads_down tree root k
leads_in DistributeUp tree root k = leads_down tree root k
leads_in DistributeDown tree root k = leads_up tree root k

-- from which of the two to which
abbrev pub ends_in : Pass → ℕ → ℕ → ℕ × ℕ
ends_in CollectUp k next = (k, next)
ends_in CollectDown k next = (k, next)
ends_in DistributeUp k next = (next, k)
ends_in DistributeDown k next = (next, k)

-- the clique that it comes to after some
abbrev pub clique_in : Pass → ℕ → ℕ → ℕ
clique_in CollectUp count passed = count - passed
clique_in CollectDown count passed = passed + 1
clique_in DistributeUp count passed = count - passed
clique_in DistributeDown count passed = passed + 1

-- the messages that are right before it
abbrev pub IsBefore : (ℕ → ℕ → ℕ) → Pass → FlowOf → Placing → ℕ → Type 0
IsBefore plus CollectUp flow p root = ⊤
IsBefore plus CollectDown flow p root = AreRightFrom plus flow p root (λ k. leads_up flow.shape.tree root k ≡ true)
IsBefore plus DistributeUp flow p root = AreRightTowards plus flow p root
IsBefore plus DistributeDown flow p root =
    AreRightTowards plus flow p root × AreRightTo plus flow p root (λ k. leads_down flow.shape.tree root k ≡ true)

-- and after it
abbrev pub IsAfter : (ℕ → ℕ → ℕ) → Pass → FlowOf → Placing → ℕ → Type 0
IsAfter plus CollectUp flow p root = IsBefore plus CollectDown flow p root
IsAfter plus CollectDown flow p root = IsBefore plus DistributeUp flow p root
IsAfter plus DistributeUp flow p root = IsBefore plus DistributeDown flow p root
IsAfter plus DistributeDown flow p root = AreAllRight plus flow p

pub record CanPass (plus : ℕ → ℕ → ℕ) (pass : Pass) (flow : FlowOf) (root : ℕ) : Type 0 where
  pub placing : Placing
  pub has : HasPlaced plus flow placing
  pub clique_is : IsClique flow.shape.tree root
  pub before : IsBefore plus pass flow placing root
