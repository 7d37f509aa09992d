use Rattle.std.proofs.Common.{◌≡◌, ℕ, ◌<◌, length, slice_index}
use Rattle.mk_cell.specs.Cell.{StandsAt}
use Rattle.mk_passes.proofs.picked.unit_cells.Given as goal

abbrev pub invariant-loop-value : goal.invariant-loop-value
invariant-loop-value l = record {
  long : length l.digits ≡ 16;
  long_too : length l.exponents ≡ 16;
  stand : (v : ℕ) → v < l.value → StandsAt 40 (slice_index l.digits v) (slice_index l.exponents v) (slice_index l.ratio.factors.items v) 0;
}
