use Rattle.mk_sums.proofs.Sides.{tops_from_running, running_from_tops}
use Rattle.mk_sums.proofs.trees.running_is_one_top.Goals as goal

pub returns : goal.returns
returns c = λ link m clique links. (tops_from_running link m clique links, running_from_tops link m clique links)
