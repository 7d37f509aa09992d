use Rattle.std.proofs.Common.{◌≡◌}
use Rattle.mk_states.specs.States.{numbers_below}
use Rattle.mk_scope.specs.inner.Strides.{repeated}
use Rattle.mk_scope.proofs.strides.repeat.Given as goal

abbrev pub invariant-loop-value : goal.invariant-loop-value
invariant-loop-value l = l.cells.items ≡ repeated l.stride (numbers_below l.value) l.fn.cells.items
