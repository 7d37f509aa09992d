use Rattle.std.proofs.Common.{◌≡◌, ◌<◌, ℕ, length, slice_index}
use Rattle.mk_passes.proofs.blank.put_cells.Given as goal

abbrev pub invariant-loop-cell : goal.invariant-loop-cell
invariant-loop-cell l = record {
  same_digits : length l.digits ≡ length l.fn.digits;
  same_exponents : length l.exponents ≡ length l.fn.exponents;
  digits : (c : ℕ) → c < l.cell → slice_index l.digits c ≡ slice_index l.other_digits (slice_index l.onto c);
  exponents : (c : ℕ) → c < l.cell → slice_index l.exponents c ≡ slice_index l.other_exponents (slice_index l.onto c);
}
