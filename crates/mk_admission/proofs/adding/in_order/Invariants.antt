use Rattle.std.proofs.Common.{length}
use Rattle.mk_admission.proofs.Numbered.{AreMembersTo}
use Rattle.mk_admission.proofs.adding.in_order.Given as goal

abbrev pub invariant-loop-variable : goal.invariant-loop-variable
invariant-loop-variable l = AreMembersTo (length l.net) l.set l.variable l.variables.items
