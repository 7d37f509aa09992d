use Rattle.std.proofs.Common.{◌*◌, ◌^◌, ◌≤◌, slice_index}
use Rattle.mk_cell.proofs.LeastCells.{IsLeastRank}
use Rattle.mk_cell.proofs.minima.least_rank.Given as goal

abbrev pub invariant-loop-c : goal.invariant-loop-c
invariant-loop-c l = IsLeastRank l.c (slice_index l.digits) (slice_index l.exponents) l.least × (l.least ≤ 4294967295 * 2 ^ 64)
