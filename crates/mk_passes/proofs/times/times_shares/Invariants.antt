use Rattle.std.proofs.Common.{◌<◌}
use Rattle.mk_sums.specs.There.{share_there}
use Rattle.mk_scope.specs.Cells.{values_at}
use Rattle.mk_passes.specs.Parts.{IsTimes, IsChanged}
use Rattle.mk_passes.proofs.times.times_shares.Given as goal

abbrev pub invariant-loop-cell : goal.invariant-loop-cell
invariant-loop-cell l =
    IsChanged (λ c d e x y. IsTimes d e 0 (share_there l.net l.variable (values_at l.scope c)) 0 x y) (λ c. c < l.cell) l.fn.digits l.fn.exponents l.digits l.exponents
