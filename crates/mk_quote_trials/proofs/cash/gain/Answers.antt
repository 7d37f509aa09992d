use Rattle.std.proofs.Common.{◌^◌, arith}
use Rattle.mk_scaled.specs.Range.{below_two_to}
use Rattle.mk_quote_trials.proofs.cash.gain.Goals as goal

pub shift-number-requires : goal.shift-number-requires
shift-number-requires g c = rw c.of_whole.ensures (below_two_to c.args.mantissa c.args.exponent 64 (2 ^ 50) (omega arith) (omega arith))

pub returns : goal.returns
returns g c =
    rw (c.between.ensures.upper, c.shift-number.ensures, c.of_whole.ensures) (below_two_to c.args.mantissa c.args.exponent 64 (2 ^ 23) (omega arith) (omega arith))
