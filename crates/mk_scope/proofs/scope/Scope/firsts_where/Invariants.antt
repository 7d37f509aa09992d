use Rattle.std.proofs.Common.{◌≡◌, ◌-◌, drop, length}
use Rattle.mk_sums.specs.Cells.{cells}
use Rattle.mk_scope.specs.Scopes.{size_in}
use Rattle.mk_scope.specs.inner.Strides.{cells_with, values_let}
use Rattle.mk_scope.specs.Runs.{runs_of}
use Rattle.mk_scope.proofs.scope.Scope.firsts_where.Given as goal

abbrev pub invariant-loop-passed : goal.invariant-loop-passed
invariant-loop-passed l = record {
  stride : l.stride ≡ cells (size_in l.self) (drop (length l.self.variables - l.passed) l.self.variables);
  cells : runs_of l.fn.tail.cells l.firsts.items ≡ cells_with (size_in l.self) (values_let l.self l.event) (drop (length l.self.variables - l.passed) l.self.variables);
}
