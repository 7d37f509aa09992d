use Rattle.std.proofs.Common.{◌≡◌, ℕ, ◌+◌, ◌<◌, length, slice_index}
use Rattle.std.specs.List.{range_with_len}
use Rattle.mk_states.specs.States.{plus_over}
use Rattle.mk_cell.specs.Cell.{StandsAt}
use Rattle.mk_passes.specs.Parts.{StandListed}
use Rattle.mk_scope.specs.Runs.{runs_of}
use Rattle.mk_passes.proofs.blocks.plus_of_block.Given as goal

abbrev pub invariant-loop-place : goal.invariant-loop-place
invariant-loop-place g l = record {
  long : length l.run_digits ≡ g.row.N;
  long_too : length l.run_exponents ≡ g.row.N;
  stand : (b : ℕ) → b < l.place → (k : ℕ) (f : ℕ → ℕ) (n : ℕ) → StandListed k l.digits l.exponents f n l.base (runs_of l.run l.offsets)
      → StandsAt k (slice_index l.run_digits b) (slice_index l.run_exponents b) (plus_over g.R.Semiring.plus_of 0 (λ c. f (l.base + c)) (range_with_len (slice_index l.offsets b) l.run)) (n + length (runs_of l.run l.offsets));
}
