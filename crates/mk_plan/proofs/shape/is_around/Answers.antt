use Rattle.mk_plan.proofs.Cores.{listed_is}
use Rattle.mk_plan.proofs.shape.is_around.Goals as goal

pub clique-requires-clause-first : goal.clique-requires-clause-first
clique-requires-clause-first c = (listed_is c.args.tree.now c.cliques.ensures.linked c.args.k _ _ c.requires.linked c.loop-neighbour-test.true).first

pub clique-requires-clause-last : goal.clique-requires-clause-last
clique-requires-clause-last c = (listed_is c.args.tree.now c.cliques.ensures.linked c.args.k _ _ c.requires.linked c.loop-neighbour-test.true).last
