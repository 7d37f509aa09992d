use Rattle.std.proofs.Common.{[], map, take}
use Rattle.mk_engine.specs.Meaning.{SupportOf}
use Rattle.mk_tree.specs.Given.{GivenTree}
use Rattle.mk_assets.proofs.assets.Assets.supported.Given as goal

abbrev pub invariant-loop-variable : goal.invariant-loop-variable
invariant-loop-variable g l = (tree : GivenTree) → g.E.Engine.plan_for l.plan l.net tree
    → g.E.Engine.stands_for l.engine (record { network = l.net; tree = tree; factors = map SupportOf (take l.variable-index l.variable-items); known = [] })
