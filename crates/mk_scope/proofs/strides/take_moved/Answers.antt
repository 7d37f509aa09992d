use Rattle.std.proofs.Common.{sym}
use Rattle.mk_scope.proofs.Doubled.{repeated_first}
use Rattle.mk_scope.proofs.strides.take_moved.Goals as goal

pub returns-then-moved : goal.returns-then-moved
returns-then-moved c = rw c.if-moved.true c.repeat.ensures

pub returns-else-moved : goal.returns-else-moved
returns-else-moved c = rw c.if-moved.false (sym (repeated_first c.args.stride c.args.cells.now.items))
