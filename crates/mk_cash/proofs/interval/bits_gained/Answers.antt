use Rattle.std.proofs.Common.{◌^◌, arith}
use Rattle.mk_cash.proofs.Ranges.{gained_small}
use Rattle.mk_cash.proofs.interval.bits_gained.Goals as goal

pub overflow_mul-result : goal.overflow_mul-result
overflow_mul-result c =
    let gain = c.args.factor.now.gain in
    let l = gained_small c.args.power _ _ gain.lo gain.hi (2 ^ 50) c.paid_in.ensures.value gain.positive gain.ordered c.requires.above in
    omega arith

pub returns-clause-small : goal.returns-clause-small
returns-clause-small c =
    let gain = c.args.factor.now.gain in
    gained_small c.args.power _ _ gain.lo gain.hi (2 ^ 50) c.paid_in.ensures.value gain.positive gain.ordered c.requires.above
