use Rattle.mk_propagate.proofs.Passing.{IsPassing}
use Rattle.mk_propagate.proofs.flow.Flow.pass.Given as goal

abbrev pub invariant-loop-passed : goal.invariant-loop-passed
invariant-loop-passed g l = IsPassing g.R.Semiring.plus_of l.pass l.fn.self l.self l.root l.count l.passed
