use Rattle.mk_passes.specs.Parts.{IsTimesCell, IsChanged}
use Rattle.mk_scope.specs.Runs.{IsOfRuns}
use Rattle.mk_passes.proofs.times.times_runs.Given as goal

abbrev pub invariant-loop-place : goal.invariant-loop-place
invariant-loop-place l =
    IsChanged (λ c d e x y. IsTimesCell d e l.other.digits l.other.exponent x y) (IsOfRuns l.base l.run l.offsets l.place) l.fn.digits l.fn.exponents l.digits l.exponents
