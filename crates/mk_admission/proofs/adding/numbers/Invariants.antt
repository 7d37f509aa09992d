use Rattle.mk_admission.proofs.Numbered.{AreNumbersTo}
use Rattle.mk_admission.proofs.adding.numbers.Given as goal

abbrev pub invariant-loop-name : goal.invariant-loop-name
invariant-loop-name g l = AreNumbersTo l.net l.name-items l.name-index l.numbers.items
