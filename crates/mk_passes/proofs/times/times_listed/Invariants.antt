use Rattle.mk_passes.specs.Parts.{IsTimesCell, IsChanged}
use Rattle.mk_scope.specs.Runs.{IsAmong, cells_at}
use Rattle.mk_passes.proofs.times.times_listed.Given as goal

abbrev pub invariant-loop-place : goal.invariant-loop-place
invariant-loop-place l =
    IsChanged (λ c d e x y. IsTimesCell d e l.other.digits l.other.exponent x y) (IsAmong (cells_at l.base l.offsets) l.place) l.fn.digits l.fn.exponents l.digits l.exponents
