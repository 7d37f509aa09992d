use Rattle.std.proofs.Common.{slice_index}
use Rattle.mk_scope.specs.Cells.{cell_in}
use Rattle.mk_passes.specs.Parts.{IsTimesCell, IsChanged}
use Rattle.mk_passes.proofs.Placed.{IsBefore}
use Rattle.mk_passes.proofs.times.times_cells.Given as goal

abbrev pub invariant-loop-place : goal.invariant-loop-place
invariant-loop-place l =
    IsChanged (λ c d e x y. IsTimesCell d e (slice_index l.other_digits (cell_in l.places.part l.places.whole c)) (slice_index l.other_exponents (cell_in l.places.part l.places.whole c)) x y)
    (IsBefore l.places.part l.places.whole l.place) l.fn.digits l.fn.exponents l.digits l.exponents
