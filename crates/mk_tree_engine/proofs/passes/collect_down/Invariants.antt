use Rattle.mk_tree_engine.specs.Engines.{MarkedFlow}
use Rattle.mk_tree_engine.specs.inner.Marks.{marked}
use Rattle.mk_tree_engine.specs.inner.Passes.{AreCollected, CanCollect, passed_up, passed_down}
use Rattle.mk_tree_engine.proofs.passes.collect_down.Given as goal

abbrev pub invariant-loop-passed : goal.invariant-loop-passed
invariant-loop-passed g l =
    (old : MarkedFlow) → CanCollect g.R.Semiring.plus_of old l.clique
    → AreCollected g.R.Semiring.plus_of l.clique (passed_up l.fn.flow.shape.tree l.clique 0) old (marked l.fn.flow l.fn.marks.up.items l.fn.marks.down.items)
    → AreCollected g.R.Semiring.plus_of l.clique (passed_down l.fn.flow.shape.tree l.clique l.passed) old (marked l.flow l.marks.up.items l.marks.down.items)
