use Rattle.mk_spread.proofs.Exist.{value_sides_exist}
use Rattle.mk_spread.proofs.existing.value_sides_exist.Goals as goal

pub returns : goal.returns
returns c = value_sides_exist
