use Rattle.mk_exact.proofs.settling.settlement_bounded.Goals as goal
use Rattle.mk_exact.proofs.Gains.{settlement_bounded}

pub returns : goal.returns
returns c = settlement_bounded
