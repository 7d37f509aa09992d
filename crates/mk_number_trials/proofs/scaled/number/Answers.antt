use Rattle.std.proofs.Common.{◌^◌, arith}
use Rattle.mk_scaled.specs.Range.{below_two_to}
use Rattle.mk_number_trials.proofs.scaled.number.Goals as goal

pub shift-requires : goal.shift-requires
shift-requires g c = rw c.of_whole.ensures (below_two_to c.args.mantissa c.args.exponent 64 (2 ^ 50) (omega arith) (omega arith))

pub returns : goal.returns
returns g c =
    rw (c.shift.ensures, c.of_whole.ensures) (below_two_to c.args.mantissa c.args.exponent 64 (2 ^ 42) (omega arith) (omega arith))
