use Rattle.std.proofs.Common.{arith}
use Rattle.mk_scaled.proofs.Quotients.{answers_lowered, answers_raised}
use Rattle.mk_scaled.proofs.scaled.quotient.divide.Goals as goal

pub returns-then-up-down : goal.returns-then-up-down
returns-then-up-down c = answers_lowered c.divide_lowered.result c.args.number c.args.by c.args.up c.args.down (omega arith) c.divide_lowered.ensures

pub returns-else-up-down : goal.returns-else-up-down
returns-else-up-down c = answers_raised c.divide_raised.result c.args.number c.args.by c.args.up c.args.down (omega arith) c.divide_raised.ensures
