use Rattle.mk_tree.proofs.Tested.{AreTops}
use Rattle.mk_tree.proofs.check.with_several_tops.Given as goal

abbrev pub invariant-loop-place : goal.invariant-loop-place
invariant-loop-place l = AreTops (record { cliques = l.cliques; links = l.links }) l.place l.once l.twice
