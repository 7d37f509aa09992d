use Rattle.mk_tree_trials.proofs.Ready.{reading_keeps}
use Rattle.mk_tree_trials.proofs.flows.again.Goals as goal

pub returns : goal.returns
returns g c = reading_keeps g.R.Semiring.plus_of c.args.flow.now c.read.new.self c.read.ensures.kept c.read.ensures.still
