use Rattle.mk_passes.specs.Parts.{IsTimesCell, IsChanged}
use Rattle.mk_scope.specs.Runs.{IsBetween}
use Rattle.mk_passes.proofs.times.times_run.Given as goal

abbrev pub invariant-loop-cell : goal.invariant-loop-cell
invariant-loop-cell l = IsChanged (λ c d e x y. IsTimesCell d e l.other.digits l.other.exponent x y) (IsBetween l.first l.cell) l.fn.digits l.fn.exponents l.digits l.exponents
