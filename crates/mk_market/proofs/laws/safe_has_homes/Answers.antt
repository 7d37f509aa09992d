use Rattle.mk_market.proofs.Homes.{safe_has_homes}
use Rattle.mk_market.proofs.laws.safe_has_homes.Goals as goal

pub returns : goal.returns
returns c = safe_has_homes
