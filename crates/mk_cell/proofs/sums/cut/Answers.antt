use Rattle.std.proofs.Common.{arith}
use Rattle.mk_cell.proofs.Digits.{gone_by}
use Rattle.mk_cell.proofs.sums.cut.Goals as goal

pub returns-else-places-lt64 : goal.returns-else-places-lt64
returns-else-places-lt64 c = gone_by c.args.digits c.args.places (omega arith) c.if-places-lt64.false
