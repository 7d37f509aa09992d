use Rattle.mk_tree.proofs.Families.{IsFamily}
use Rattle.mk_tree.proofs.check.family.Given as goal

abbrev pub invariant-loop-parent : goal.invariant-loop-parent
invariant-loop-parent l = IsFamily l.family l.variable l.parent-items l.parent-index
