use Rattle.std.proofs.Common.{arith}
use Rattle.mk_scaled.specs.Range.{two_to-small, power_in_range}
use Rattle.mk_number_trials.proofs.scaled.check_power.Goals as goal

pub pow_down-requires-clause-range : goal.pow_down-requires-clause-range
pow_down-requires-clause-range g c =
    let s = two_to-small 64 64 (omega arith) in power_in_range _ 64 c.args.n (omega arith) (omega arith)

pub pow_up-requires-clause-range : goal.pow_up-requires-clause-range
pow_up-requires-clause-range g c =
    let s = two_to-small 64 64 (omega arith) in power_in_range _ 64 c.args.n (omega arith) (omega arith)
