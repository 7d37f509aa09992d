use Rattle.mk_tree_engine.specs.inner.Marks.{AreMarkedFrom}
use Rattle.mk_tree_engine.proofs.marks.mark_from.Given as goal

abbrev pub invariant-loop-place : goal.invariant-loop-place
invariant-loop-place l = AreMarkedFrom l.first l.place l.fn.marks l.marks
