use Rattle.std.proofs.Common.{length, filter}
use Rattle.mk_sets.specs.Sets.{is_member}
use Rattle.mk_net.specs.Bounds.{max_variables}
use Rattle.mk_states.specs.States.{numbers_below}
use Rattle.mk_tree.proofs.Begun.{AreBegun}
use Rattle.mk_tree.proofs.starts.begin_at.Given as goal

abbrev pub invariant-loop-variable : goal.invariant-loop-variable
invariant-loop-variable l = AreBegun l.clique l.left l.place l.initial.starts l.starts

abbrev pub decreases-loop-variable : goal.decreases-loop-variable
decreases-loop-variable l = length (filter (is_member l.left) (numbers_below max_variables))
