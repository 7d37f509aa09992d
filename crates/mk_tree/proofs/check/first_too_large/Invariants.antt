use Rattle.mk_tree.proofs.Cells.{AreSmall}
use Rattle.mk_tree.proofs.check.first_too_large.Given as goal

abbrev pub invariant-loop-place : goal.invariant-loop-place
invariant-loop-place l = AreSmall l.net l.cliques l.place l.total
