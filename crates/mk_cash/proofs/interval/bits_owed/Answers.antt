use Rattle.std.proofs.Common.{◌^◌, arith}
use Rattle.mk_cash.proofs.Ranges.{owed_small}
use Rattle.mk_cash.proofs.interval.bits_owed.Goals as goal

pub overflow_mul-result-2 : goal.overflow_mul-result-2
overflow_mul-result-2 c =
    let l = owed_small c.args.power c.args.factor.now.trades _ _ (2 ^ 50) c.taken_out.ensures.value c.requires.below in
    omega arith
