use Rattle.std.proofs.Common.{◌≡◌, max, slice_index}
use Rattle.mk_cell.specs.Passes.{folded}
use Rattle.mk_cell.proofs.sums.greatest.Given as goal

abbrev pub invariant-loop-c : goal.invariant-loop-c
invariant-loop-c l = l.top ≡ folded max 0 l.c (slice_index l.exponents)
