use Rattle.std.proofs.Common.{false}
use Rattle.mk_scope.specs.inner.Strides.{IsTail, values_moved}
use Rattle.mk_scope.proofs.scope.Scope.tail_outside.Given as goal

abbrev pub invariant-loop-passed : goal.invariant-loop-passed
invariant-loop-passed l = IsTail l.self (values_moved l.self l.part false) l.passed l.cells
