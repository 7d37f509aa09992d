use Rattle.std.proofs.Common.{◌≡◌, ◌-◌, drop, length}
use Rattle.mk_sums.specs.Cells.{cells}
use Rattle.mk_scope.specs.Scopes.{size_in}
use Rattle.mk_scope.specs.inner.Strides.{cells_with, values_moved}
use Rattle.mk_scope.specs.Runs.{runs_of}
use Rattle.mk_scope.proofs.scope.Scope.cells_moved.Given as goal

abbrev pub invariant-loop-passed : goal.invariant-loop-passed
invariant-loop-passed l = record {
  stride : l.stride ≡ cells (size_in l.self) (drop (length l.self.variables - l.passed) l.self.variables);
  cells : runs_of l.fn.tail.cells l.cells.items ≡ cells_with (size_in l.self) (values_moved l.self l.part l.inside) (drop (length l.self.variables - l.passed) l.self.variables);
}
