use Rattle.mk_plan.specs.Shapes.{IsClique}
use Rattle.mk_tree_engine.specs.inner.Marks.{marked}
use Rattle.mk_tree_engine.specs.inner.Passes.{AreCollected, is_off_way, number_on_way}
use Rattle.mk_tree_engine.proofs.passes.collect_from.Given as goal

abbrev pub invariant-loop-k : goal.invariant-loop-k
invariant-loop-k g l = record {
  clique_is : IsClique l.fn.flow.shape.tree l.k;
  made : AreCollected g.R.Semiring.plus_of l.clique (is_off_way l.fn.flow.shape.tree l.k l.clique)
      (marked l.fn.flow l.fn.marks.up.items l.fn.marks.down.items) (marked l.flow l.marks.up.items l.marks.down.items);
}

abbrev pub decreases-loop-k : goal.decreases-loop-k
decreases-loop-k g l = number_on_way l.fn.flow.shape.tree l.k l.clique
