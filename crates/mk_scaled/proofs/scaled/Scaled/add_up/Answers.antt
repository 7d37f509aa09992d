use Rattle.mk_scaled.proofs.Ranges.{near_range}
use Rattle.mk_scaled.proofs.scaled.Scaled.add_up.Goals as goal

pub sum-requires : goal.sum-requires
sum-requires c = near_range _ c.requires

pub returns : goal.returns
returns c = c.round_up.ensures _ c.sum.ensures.exact
