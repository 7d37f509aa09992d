use Rattle.mk_tree_engine.proofs.Numbers as numbers
use Rattle.mk_tree_engine.proofs.laws.stale_between.Goals as goal

pub returns : goal.returns
returns c = numbers.stale_between
