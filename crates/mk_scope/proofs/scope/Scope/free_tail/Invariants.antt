use Rattle.mk_scope.specs.inner.Strides.{IsTail, values_let}
use Rattle.mk_scope.proofs.scope.Scope.free_tail.Given as goal

abbrev pub invariant-loop-passed : goal.invariant-loop-passed
invariant-loop-passed l = IsTail l.self (values_let l.self l.event) l.passed l.cells
