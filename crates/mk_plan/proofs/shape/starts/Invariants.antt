use Rattle.std.proofs.Common.{◌≡◌, length}
use Rattle.mk_plan.specs.inner.Shaped.{AreStarts}
use Rattle.mk_plan.proofs.shape.starts.Given as goal

abbrev pub invariant-loop-variable : goal.invariant-loop-variable
invariant-loop-variable l = record {
  long : length l.starts.items ≡ l.variable;
  each : AreStarts l.tree l.starts.items;
}
