use Rattle.std.proofs.Common.{◌≡◌, ◌+◌, ◌-◌, ◌∷◌, ◌++◌, [], length, take, drop, sum_by}
use Rattle.mk_net.specs.Network.{sizes}
use Rattle.mk_states.specs.States.{numbers_below}
use Rattle.mk_exact.specs.Weight.{weight}
use Rattle.mk_walk.specs.Walked.{capped}
use Rattle.mk_small.specs.Walks.{behind}
use Rattle.mk_small.proofs.small.+total_behind.Given as goal

abbrev pub decreases-total_behind : goal.decreases-total_behind
decreases-total_behind l = length l.net.now - l.done

abbrev pub invariant-loop-value : goal.invariant-loop-value
invariant-loop-value l = l.sum ≡ capped (sum_by
    (λ v. behind (weight l.net l.history.history) (drop (l.done + 1) (sizes l.net))
    (take l.done l.front ++ v ∷ [])) (numbers_below l.value))
