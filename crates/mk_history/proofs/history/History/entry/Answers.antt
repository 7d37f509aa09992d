use Rattle.mk_history.proofs.Taken.{take_next}
use Rattle.mk_history.proofs.history.History.entry.Goals as goal

pub returns-clause-next : goal.returns-clause-next
returns-clause-next c = take_next _ _ _ c.requires c.read.ensures
