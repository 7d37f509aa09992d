use Rattle.std.proofs.Common.{◌≡◌, take}
use Rattle.mk_exact.specs.Weight.{weight}
use Rattle.mk_walk.specs.Walked.{capped}
use Rattle.mk_small.proofs.small.weight_of.Given as goal

abbrev pub invariant-loop-number : goal.invariant-loop-number
invariant-loop-number l =
    l.weight ≡ capped (weight l.net (take l.number l.history.history) l.state)
