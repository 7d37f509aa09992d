use Rattle.std.proofs.Common.{map}
use Rattle.mk_plan.specs.inner.Shaped.{AreWays}
use Rattle.mk_plan.proofs.shape.ways.Given as goal

abbrev pub invariant-loop-passed : goal.invariant-loop-passed
invariant-loop-passed l = AreWays l.tree l.passed (map (λ next. next.items) l.ways.items)
