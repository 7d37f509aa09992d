use Rattle.mk_exact.proofs.changes.fair_pair_is_safe.Goals as goal
use Rattle.mk_exact.proofs.Range.{fair_pair_is_safe}

pub returns : goal.returns
returns c = fair_pair_is_safe
