use Rattle.mk_make.proofs.LengthLemmas.{commands_length}
use Rattle.mk_make.proofs.bounds.commands_are_short.Goals as goal

pub returns : goal.returns
returns c = commands_length
