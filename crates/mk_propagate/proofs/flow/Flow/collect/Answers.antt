use Rattle.mk_propagate.specs.declared.pass.Pass.TheVariants.{CollectUp, CollectDown}
use Rattle.mk_propagate.proofs.Order.{one_less}
use Rattle.mk_propagate.proofs.Passing.{counted_twice}
use Rattle.mk_propagate.proofs.flow.Flow.collect.Goals as goal

pub returns-clause-right : goal.returns-clause-right
returns-clause-right g c = λ p has. c.pass-2.ensures.right p (c.pass.ensures.kept.placed p has) (c.pass.ensures.right p has tt)

pub returns-clause-counted : goal.returns-clause-counted
returns-clause-counted g c =
    counted_twice g.R.Semiring.plus_of c.args.self.now c.pass.new.self c.pass.ensures.kept CollectUp CollectDown c.args.root c.pass-2.new.self.computed
    (one_less c.args.self.now.shape.tree c.requires.has.shape_is.tree_is.linked c.args.root c.requires.clique_is) c.pass.ensures.counted c.pass-2.ensures.counted
