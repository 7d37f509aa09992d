use Rattle.mk_net.specs.Trades.{trade_ratio}
use Rattle.mk_states.specs.Ratios.{units_of}
use Rattle.mk_scope.specs.Cells.{values_at}
use Rattle.mk_passes.specs.Parts.{IsTimes, IsChanged}
use Rattle.mk_scope.specs.Runs.{IsAmong}
use Rattle.mk_passes.proofs.times.times_units.Given as goal

abbrev pub invariant-loop-place : goal.invariant-loop-place
invariant-loop-place l =
    IsChanged (λ c d e x y. IsTimes d e 40 (units_of (trade_ratio l.ratio) (values_at l.scope c l.ratio.variable)) 0 x y) (IsAmong l.chosen l.place) l.fn.digits l.fn.exponents l.digits l.exponents
