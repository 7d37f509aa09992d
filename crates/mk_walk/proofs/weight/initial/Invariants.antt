use Rattle.std.proofs.Common.{◌≡◌}
use Rattle.mk_states.specs.States.{product_by, numbers_below}
use Rattle.mk_states.specs.InitialWeight.{entry}
use Rattle.mk_walk.specs.Walked.{capped}
use Rattle.mk_walk.proofs.weight.initial.Given as goal

abbrev pub invariant-loop-variable : goal.invariant-loop-variable
invariant-loop-variable l = l.weight ≡ capped (product_by (λ k. entry l.network k l.state) (numbers_below l.variable))
