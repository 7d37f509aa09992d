use Rattle.std.proofs.Common.{◌-◌}
use Rattle.mk_tree_engine.specs.inner.Marks.{marked}
use Rattle.mk_tree_engine.specs.inner.Passes.{AreCollected, passed_up}
use Rattle.mk_tree_engine.proofs.passes.collect_up.Given as goal

abbrev pub invariant-loop-passed : goal.invariant-loop-passed
invariant-loop-passed g l =
    AreCollected g.R.Semiring.plus_of l.clique (passed_up l.fn.flow.shape.tree l.clique (l.cliques - l.passed))
    (marked l.fn.flow l.fn.marks.up.items l.fn.marks.down.items) (marked l.flow l.marks.up.items l.marks.down.items)
