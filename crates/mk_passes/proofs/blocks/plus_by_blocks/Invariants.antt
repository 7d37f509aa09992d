use Rattle.std.proofs.Common.{◌≡◌, ℕ, ◌+◌, ◌-◌, ◌*◌, ◌<◌, length, slice_index}
use Rattle.std.specs.List.{range_with_len}
use Rattle.mk_states.specs.States.{plus_over}
use Rattle.mk_cell.specs.Cell.{StandsAt}
use Rattle.mk_passes.specs.Parts.{StandListed, block_of}
use Rattle.mk_scope.specs.Runs.{runs_of}
use Rattle.mk_passes.proofs.blocks.plus_by_blocks.Given as goal

abbrev pub invariant-loop-block : goal.invariant-loop-block
invariant-loop-block g l = record {
  long : length l.block_digits ≡ 64;
  long_too : length l.block_exponents ≡ 64;
  stand : (b : ℕ) → b < l.block → (k : ℕ) (f : ℕ → ℕ) (n : ℕ) → StandListed k l.digits l.exponents f n l.base (runs_of l.run l.offsets)
      → StandsAt k (slice_index l.block_digits b) (slice_index l.block_exponents b)
      (plus_over g.R.Semiring.plus_of 0 (λ o. plus_over g.R.Semiring.plus_of 0 (λ c. f (l.base + c)) (range_with_len o l.run)) (block_of l.offsets b)) (n + length l.offsets * (2 * l.run - 1));
}
