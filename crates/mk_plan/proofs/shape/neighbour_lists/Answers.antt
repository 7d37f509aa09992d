use Rattle.std.proofs.Common.{◌+◌, arith}
use Rattle.mk_plan.specs.Shapes.{neighbours}
use Rattle.mk_plan.proofs.Shaped.{one_more}
use Rattle.mk_plan.proofs.shape.neighbour_lists.Goals as goal

pub loop-passed-preserved : goal.loop-passed-preserved
loop-passed-preserved c =
    one_more _ (neighbours c.args.tree.now) c.loop-passed.lists.items c.push.new.self.items c.in_ok-neighbours_of.field-0 1 c.loop-passed.passed (c.loop-passed.passed + 1)
    c.loop-passed.invariant c.in_ok-push.ensures.items c.in_ok-neighbours_of.ensures (omega arith)
