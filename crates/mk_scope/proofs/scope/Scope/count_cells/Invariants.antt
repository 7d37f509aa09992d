use Rattle.std.proofs.Common.{◌≡◌, ◌<◌, ℕ, length, drop, slice_index}
use Rattle.mk_scope.specs.Scopes.{size_in, cells_in}
use Rattle.mk_scope.specs.Cells.{values_at, cell_in}
use Rattle.mk_scope.proofs.Numbered.{number_from}
use Rattle.mk_scope.proofs.scope.Scope.count_cells.Given as goal

abbrev pub invariant-loop-place : goal.invariant-loop-place
invariant-loop-place l = record {
  one_each : length l.numbers ≡ cells_in l.whole;
  counted : (c : ℕ) → c < cells_in l.whole
      → number_from (size_in l.self) (values_at l.whole c) (drop l.place l.self.variables) (slice_index l.numbers c) ≡ cell_in l.self l.whole c;
}
