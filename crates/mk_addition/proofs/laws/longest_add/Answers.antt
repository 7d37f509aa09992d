use Rattle.mk_addition.proofs.LengthLaws.{add_length}
use Rattle.mk_addition.proofs.laws.longest_add.Goals as goal

pub returns : goal.returns
returns c = add_length
