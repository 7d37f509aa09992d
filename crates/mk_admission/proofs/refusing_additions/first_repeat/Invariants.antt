use Rattle.mk_admission.proofs.Finding.{RepeatsFrom}
use Rattle.mk_admission.proofs.refusing_additions.first_repeat.Given as goal

abbrev pub invariant-loop-place : goal.invariant-loop-place
invariant-loop-place l = RepeatsFrom l.names l.place
