use Rattle.std.proofs.Common.{◌≤◌, slice_index}
use Rattle.mk_cell.specs.Least.{IsLeastOf}
use Rattle.mk_cell.proofs.minima.lowest.Given as goal

abbrev pub invariant-loop-c : goal.invariant-loop-c
invariant-loop-c l = IsLeastOf l.c (λ i. l.low ≤ slice_index l.exponents i) 4294967295 (slice_index l.exponents) l.lowest
