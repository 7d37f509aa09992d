use Rattle.std.proofs.Common.{◌<◌, ◌==◌}
use Rattle.mk_scope.specs.Cells.{values_at}
use Rattle.mk_passes.specs.Parts.{IsRestricted, IsChanged}
use Rattle.mk_passes.proofs.times.keep_value.Given as goal

abbrev pub invariant-loop-cell : goal.invariant-loop-cell
invariant-loop-cell l =
    IsChanged (λ c d e x y. IsRestricted (values_at l.scope c l.pair.variable == l.pair.value) d e x y) (λ c. c < l.cell) l.fn.digits l.fn.exponents l.digits l.exponents
