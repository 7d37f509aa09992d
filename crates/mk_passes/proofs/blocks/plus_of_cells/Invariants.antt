use Rattle.std.proofs.Common.{◌≡◌, ℕ, ◌+◌, ◌<◌, length, slice_index}
use Rattle.mk_passes.proofs.blocks.plus_of_cells.Given as goal

abbrev pub invariant-loop-place : goal.invariant-loop-place
invariant-loop-place g l = record {
  long : length l.block_digits ≡ g.row.N;
  long_too : length l.block_exponents ≡ g.row.N;
  digits : (k : ℕ) → k < l.place → slice_index l.block_digits k ≡ slice_index l.digits (l.base + slice_index l.offsets k);
  exponents : (k : ℕ) → k < l.place → slice_index l.block_exponents k ≡ slice_index l.exponents (l.base + slice_index l.offsets k);
}
