use Rattle.mk_scope.proofs.Ready.{none_tail}
use Rattle.mk_scope.proofs.tail.no_tail.Goals as goal

pub returns-clause-tail : goal.returns-clause-tail
returns-clause-tail c = λ scope values. none_tail scope values
