use Rattle.std.proofs.Common.{◌≡◌, ◌<◌, ◌≤◌, ◌+◌, ◌*◌, ℕ, length, slice_index}
use Rattle.mk_scope.proofs.scope.count_values.Given as goal

abbrev pub invariant-loop-cell : goal.invariant-loop-cell
invariant-loop-cell l = record {
  one_each : length l.numbers ≡ length l.fn.numbers;
  counted : (c : ℕ) → c < l.cell → slice_index l.numbers c ≡ slice_index l.fn.numbers c * l.size + slice_index l.values c;
  left : (c : ℕ) → l.cell ≤ c → slice_index l.numbers c ≡ slice_index l.fn.numbers c;
}
