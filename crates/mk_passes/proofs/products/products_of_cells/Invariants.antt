use Rattle.std.proofs.Common.{◌≡◌, ℕ, ◌+◌, ◌*◌, ◌/◌, ◌^◌, ◌<◌, length, slice_index}
use Rattle.mk_passes.proofs.products.products_of_cells.Given as goal

abbrev pub invariant-loop-place : goal.invariant-loop-place
invariant-loop-place g l = record {
  long : length l.places ≡ g.row.N;
  long_too : length l.sums ≡ g.row.N;
  places : (k : ℕ) → k < l.place → slice_index l.places k
      ≡ slice_index l.fn.left.digits.now (l.base + slice_index l.chosen k) * slice_index l.right.digits.now (slice_index l.fn.onto (l.base + slice_index l.chosen k)) / 2 ^ 64;
  sums : (k : ℕ) → k < l.place → slice_index l.sums k
      ≡ slice_index l.fn.left.exponents.now (l.base + slice_index l.chosen k) + slice_index l.right.exponents.now (slice_index l.fn.onto (l.base + slice_index l.chosen k));
}
