use Rattle.mk_spread.proofs.Agree.{fair_list_is_inside}
use Rattle.mk_spread.proofs.existing.fair_list_is_inside.Goals as goal

pub returns : goal.returns
returns c = fair_list_is_inside
