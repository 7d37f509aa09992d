use Rattle.std.proofs.Common.{arith}
use Rattle.mk_cell.proofs.Own.{multiple_in_range}
use Rattle.mk_cell.proofs.enclosing.multiple.Goals as goal

pub shift-lo-requires : goal.shift-lo-requires
shift-lo-requires c = multiple_in_range _ c.args.shift (omega arith) (omega arith)

pub shift-hi-requires : goal.shift-hi-requires
shift-hi-requires c = multiple_in_range _ c.args.shift (omega arith) (omega arith)
