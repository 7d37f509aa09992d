use Rattle.std.proofs.Common.{arith}
use Rattle.mk_number_trials.proofs.cells.unrounded.Goals as goal

pub returns : goal.returns
returns g c =
    let made = c.loop-c.invariant in
    record {
      same_length = omega (arith, made.long, made.long_too);
      each = λ i l. made.so_far i (omega (arith, made.long, c.loop-c-test.false));
    }
