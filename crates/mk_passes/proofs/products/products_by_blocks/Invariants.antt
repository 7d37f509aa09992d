use Rattle.std.proofs.Common.{◌≡◌, ℕ, ◌<◌, length, slice_index}
use Rattle.mk_passes.specs.Parts.{block_of}
use Rattle.mk_scope.specs.Runs.{cells_at}
use Rattle.mk_passes.proofs.Paired.{MakesPairs}
use Rattle.mk_passes.proofs.products.products_by_blocks.Given as goal

abbrev pub invariant-loop-block : goal.invariant-loop-block
invariant-loop-block g l = record {
  long : length l.block_digits ≡ 64;
  long_too : length l.block_exponents ≡ 64;
  stand : (b : ℕ) → b < l.block → MakesPairs g.R.Semiring.plus_of l.left.digits.now l.left.exponents.now l.onto l.right.digits.now l.right.exponents.now (cells_at l.base l.chosen) (block_of (cells_at l.base l.chosen) b) (slice_index l.block_digits b) (slice_index l.block_exponents b);
}
