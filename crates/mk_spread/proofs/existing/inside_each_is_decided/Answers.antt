use Rattle.mk_spread.proofs.Exist.{inside_each_is_decided}
use Rattle.mk_spread.proofs.existing.inside_each_is_decided.Goals as goal

pub returns : goal.returns
returns c = inside_each_is_decided
