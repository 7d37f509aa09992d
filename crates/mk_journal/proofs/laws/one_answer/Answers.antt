use Rattle.mk_journal.proofs.Meanings.{one_place, broken_own}
use Rattle.mk_journal.proofs.laws.one_answer.Goals as goal

pub returns : goal.returns
returns c = record { one_place = one_place; malformed = broken_own }
