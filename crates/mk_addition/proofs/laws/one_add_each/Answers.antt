use Rattle.mk_text.proofs.ReadingLaws.{whole_one}
use Rattle.mk_addition.proofs.AddLaws.{add_tells}
use Rattle.mk_addition.proofs.laws.one_add_each.Goals as goal

pub returns : goal.returns
returns c = whole_one add_tells
