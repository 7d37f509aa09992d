use Rattle.mk_tree_engine.proofs.Numbers as numbers
use Rattle.mk_tree_engine.proofs.laws.one_per_separator.Goals as goal

pub returns : goal.returns
returns c = numbers.one_per_separator
