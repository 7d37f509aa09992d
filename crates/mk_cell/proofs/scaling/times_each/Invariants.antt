use Rattle.mk_cell.proofs.Each.{EachSoFar}
use Rattle.mk_cell.proofs.scaling.times_each.Given as goal

abbrev pub invariant-loop-c : goal.invariant-loop-c
invariant-loop-c l = EachSoFar l.c l.initial.digits l.initial.exponents l.other_digits l.other_exponents l.digits l.exponents
