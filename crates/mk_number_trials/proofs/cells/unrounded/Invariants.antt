use Rattle.std.proofs.Common.{◌≡◌, ℕ, ◌<◌, length, slice_index}
use Rattle.mk_cell.specs.Products.{IsUnrounded}
use Rattle.mk_number_trials.proofs.cells.unrounded.Given as goal

abbrev pub invariant-loop-c : goal.invariant-loop-c
invariant-loop-c g l = record {
  long : length l.places ≡ g.row.N;
  long_too : length l.exponents ≡ g.row.N;
  so_far :
      (i : ℕ) → i < l.c
      → IsUnrounded (slice_index l.left_digits i) (slice_index l.left_exponents i) (slice_index l.right_digits i) (slice_index l.right_exponents i) (slice_index l.places i) (slice_index l.exponents i);
}
