use Rattle.std.proofs.Common.{arith}
use Rattle.mk_propagate.specs.declared.pass.Pass.TheVariants.{DistributeUp, DistributeDown}
use Rattle.mk_propagate.proofs.Order.{one_less}
use Rattle.mk_propagate.proofs.Passing.{counted_twice}
use Rattle.mk_propagate.proofs.flow.Flow.distribute.Goals as goal

pub returns-clause-right : goal.returns-clause-right
returns-clause-right g c = λ p has towards. c.pass-2.ensures.right p (c.pass.ensures.kept.placed p has) (c.pass.ensures.right p has towards)

pub returns-clause-counted : goal.returns-clause-counted
returns-clause-counted g c =
    let all = one_less c.args.self.now.shape.tree c.requires.has.shape_is.tree_is.linked c.args.root c.requires.clique_is in
    counted_twice g.R.Semiring.plus_of c.args.self.now c.pass.new.self c.pass.ensures.kept DistributeUp DistributeDown c.args.root c.pass-2.new.self.computed
    (omega (arith, all)) c.pass.ensures.counted c.pass-2.ensures.counted
