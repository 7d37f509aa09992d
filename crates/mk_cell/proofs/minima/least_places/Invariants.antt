use Rattle.std.proofs.Common.{◌-◌, ◌*◌, ◌^◌, min, slice_index}
use Rattle.mk_cell.specs.Least.{IsLeastOf, IsNextTo}
use Rattle.mk_cell.proofs.minima.least_places.Given as goal

abbrev pub invariant-loop-c : goal.invariant-loop-c
invariant-loop-c l =
    IsLeastOf l.c (λ i. IsNextTo l.lowest (slice_index l.exponents i)) 18446744073709551615
    (λ i. min 18446744073709551615 (slice_index l.places i * 2 ^ (slice_index l.exponents i - l.lowest))) l.least
