use Rattle.std.proofs.Common.{◌≡◌, ◌<◌, ◌≤◌, ℕ, length, slice_index}
use Rattle.mk_scope.proofs.scope.write_run.Given as goal

abbrev pub invariant-loop-cell : goal.invariant-loop-cell
invariant-loop-cell l = record {
  long : length l.columns ≡ length l.fn.columns;
  before : (c : ℕ) → c < l.first → slice_index l.columns c ≡ slice_index l.fn.columns c;
  written : (c : ℕ) → l.first ≤ c → c < l.cell → slice_index l.columns c ≡ l.value;
}
