use Rattle.mk_tree.proofs.Begun.{StartFrom}
use Rattle.mk_tree.proofs.starts.find_starts.Given as goal

abbrev pub invariant-loop-place : goal.invariant-loop-place
invariant-loop-place l = StartFrom l.cliques l.place l.starts.items
