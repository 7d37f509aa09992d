use Rattle.std.proofs.Common.{◌≡◌, ℕ, ◌+◌, ◌<◌, length, slice_index}
use Rattle.mk_passes.proofs.products.plus_of_others.Given as goal

abbrev pub invariant-loop-place : goal.invariant-loop-place
invariant-loop-place g l = record {
  long : length l.block_digits ≡ g.row.N;
  long_too : length l.block_exponents ≡ g.row.N;
  digits : (k : ℕ) → k < l.place → slice_index l.block_digits k ≡ slice_index l.other_digits (slice_index l.onto (l.base + slice_index l.chosen k));
  exponents : (k : ℕ) → k < l.place → slice_index l.block_exponents k ≡ slice_index l.other_exponents (slice_index l.onto (l.base + slice_index l.chosen k));
}
