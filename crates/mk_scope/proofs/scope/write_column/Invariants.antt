use Rattle.std.proofs.Common.{◌≡◌, ◌<◌, ◌+◌, ◌/◌, ◌%◌, ℕ, length, slice_index}
use Rattle.mk_scope.proofs.scope.write_column.Given as goal

abbrev pub invariant-loop-cell : goal.invariant-loop-cell
invariant-loop-cell l = record {
  long : length l.columns ≡ length l.fn.columns;
  before : (c : ℕ) → c < l.start → slice_index l.columns c ≡ slice_index l.fn.columns c;
  written : (c : ℕ) → c < l.cell → slice_index l.columns (l.start + c) ≡ c % l.span / l.stride;
}
