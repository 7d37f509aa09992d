use Rattle.std.proofs.Common.{length}
use Rattle.mk_tree.specs.Tests.{members}
use Rattle.mk_tree.proofs.Cells.{AreCells}
use Rattle.mk_tree.proofs.check.cells.Given as goal

abbrev pub invariant-loop-variable : goal.invariant-loop-variable
invariant-loop-variable l = AreCells l.net l.clique l.left l.cells

abbrev pub decreases-loop-variable : goal.decreases-loop-variable
decreases-loop-variable l = length (members l.net l.left)
