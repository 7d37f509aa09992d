use Rattle.mk_tree.specs.Given.{GivenTree}
use Rattle.mk_replay.proofs.Weighed.{rows_below}
use Rattle.mk_replay.proofs.engines.weighed.Given as goal

abbrev pub invariant-loop-variable : goal.invariant-loop-variable
invariant-loop-variable g l = (tree : GivenTree) → g.E.Engine.plan_for l.plan l.net tree
    → g.E.Engine.stands_for l.engine (rows_below l.net tree l.variable)
