use Rattle.mk_exact.proofs.settling.gains_bounded.Goals as goal
use Rattle.mk_exact.proofs.Gains.{gains_bounded}

pub returns : goal.returns
returns c = gains_bounded
