use Rattle.std.proofs.Common.{◌-◌, ◌≤◌}
use Rattle.mk_tree_engine.specs.inner.Marks.{AreMarkedUp, AreMarkedDown}
use Rattle.mk_tree_engine.proofs.marks.mark_earlier.Given as goal

abbrev pub invariant-loop-k : goal.invariant-loop-k
invariant-loop-k l = record {
  within : l.k - 2 ≤ l.clique - 2;
  up : AreMarkedUp l.shape.tree l.clique (l.k - 2) l.fn.up l.up;
  down : AreMarkedDown l.shape.tree l.clique (l.k - 2) l.fn.down l.down;
}
