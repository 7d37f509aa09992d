use Rattle.mk_scaled.proofs.Ranges.{near_range}
use Rattle.mk_scaled.proofs.scaled.Scaled.mul_up.Goals as goal

pub product-requires : goal.product-requires
product-requires c = near_range _ c.requires

pub returns : goal.returns
returns c = c.round_up.ensures _ c.product.ensures.exact
