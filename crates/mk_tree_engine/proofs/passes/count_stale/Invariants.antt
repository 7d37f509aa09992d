use Rattle.std.proofs.Common.{◌≡◌, ◌≤◌}
use Rattle.mk_tree_engine.specs.inner.Marks.{stale_marks}
use Rattle.mk_tree_engine.proofs.passes.count_stale.Given as goal

abbrev pub invariant-loop-passed : goal.invariant-loop-passed
invariant-loop-passed l = record {
  counted : l.count ≡ stale_marks l.shape.tree l.marks.up.items l.marks.down.items l.clique l.passed;
  few : l.count ≤ l.passed;
}
