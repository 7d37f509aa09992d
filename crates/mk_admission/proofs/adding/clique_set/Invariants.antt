use Rattle.mk_admission.proofs.Numbered.{IsSetTo}
use Rattle.mk_admission.proofs.adding.clique_set.Given as goal

abbrev pub invariant-loop-variable : goal.invariant-loop-variable
invariant-loop-variable l = IsSetTo l.clique l.variable-index l.set
