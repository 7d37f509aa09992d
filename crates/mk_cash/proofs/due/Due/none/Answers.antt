use Rattle.mk_cash.proofs.Dues.{due_none}
use Rattle.mk_cash.proofs.due.Due.none.Goals as goal

pub invariant_of-result : goal.invariant_of-result
invariant_of-result c = rw (c.of_whole.ensures, c.of_whole-2.ensures) due_none
