use Rattle.std.proofs.Common.{◌≡◌, ℕ, ◌+◌, ◌*◌, ◌<◌, ◌≤◌, [], drop, map}
use Rattle.mk_net.specs.Bounds.{max_clique_cells}
use Rattle.mk_scope.specs.Scopes.{cells_in}
use Rattle.mk_table.specs.inner.Store.{all_missing, scope_in}
use Rattle.mk_table.proofs.scopes.count_all.Given as goal

abbrev pub invariant-loop-scope : goal.invariant-loop-scope
invariant-loop-scope l = record {
  all : l.cells + all_missing (map (λ scope. scope.value) (drop l.scope-index l.scopes)) [] ≡ all_missing (map (λ scope. scope.value) l.scopes) [];
  few : l.cells ≤ l.scope-index * max_clique_cells;
  each : (k : ℕ) → k < l.scope-index → cells_in (scope_in (map (λ scope. scope.value) l.scopes) k) ≤ l.most;
  small : l.most ≤ max_clique_cells;
}
