use Rattle.std.proofs.Common.{◌≡◌, ◌<◌, ◌+◌, ◌*◌, ◌/◌, ℕ, length, slice_index}
use Rattle.mk_scope.proofs.scope.write_values.Given as goal

abbrev pub invariant-loop-value : goal.invariant-loop-value
invariant-loop-value l = record {
  first : l.first ≡ l.start + l.value * l.stride;
  long : length l.columns ≡ length l.fn.columns;
  before : (c : ℕ) → c < l.start → slice_index l.columns c ≡ slice_index l.fn.columns c;
  written : (c : ℕ) → c < l.value * l.stride → slice_index l.columns (l.start + c) ≡ c / l.stride;
}
