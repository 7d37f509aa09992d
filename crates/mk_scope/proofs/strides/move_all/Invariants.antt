use Rattle.std.proofs.Common.{◌≡◌, ℕ, ◌+◌, ◌<◌, ◌≤◌, length, slice_index, vec_capacity}
use Rattle.mk_scope.specs.inner.Lists.{IsWithinRoom}
use Rattle.mk_scope.proofs.strides.move_all.Given as goal

abbrev pub invariant-loop-place : goal.invariant-loop-place
invariant-loop-place l = record {
  within : IsWithinRoom l.cells-inside.count (length l.cells-inside.cells.items) (vec_capacity l.cells-inside.cells);
  count : l.cells-inside.count ≡ length l.fn.cells.items;
  moved : (k : ℕ) → k < l.place → slice_index l.cells-inside.cells.items k ≡ l.by + slice_index l.fn.cells.items k;
  left : (k : ℕ) → l.place ≤ k → k < length l.fn.cells.items → slice_index l.cells-inside.cells.items k ≡ slice_index l.fn.cells.items k;
}
