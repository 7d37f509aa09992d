use Rattle.mk_plan.specs.Shapes.{AreNextTo}
use Rattle.mk_plan.proofs.shape.next_to.Given as goal

abbrev pub invariant-loop-passed : goal.invariant-loop-passed
invariant-loop-passed l = AreNextTo l.tree l.to l.passed l.next.items
