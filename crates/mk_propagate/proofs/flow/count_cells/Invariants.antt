use Rattle.std.proofs.Common.{◌≡◌, ◌*◌, ◌≤◌, true}
use Rattle.mk_sums.specs.Trees.{sum_of}
use Rattle.mk_scope.specs.Scopes.{cells_in}
use Rattle.mk_plan.specs.Shapes.{clique_scope}
use Rattle.mk_propagate.proofs.flow.count_cells.Given as goal

abbrev pub invariant-loop-passed : goal.invariant-loop-passed
invariant-loop-passed l = record {
  counted : l.cells ≡ sum_of (λ k. true) l.passed (λ k. cells_in (clique_scope l.shape k));
  few : l.cells ≤ 4096 * l.passed;
}
