use Rattle.mk_market.proofs.Settlement.{settlement_pays_off}
use Rattle.mk_market.proofs.laws.settlement_pays_off.Goals as goal

pub returns : goal.returns
returns c = settlement_pays_off
