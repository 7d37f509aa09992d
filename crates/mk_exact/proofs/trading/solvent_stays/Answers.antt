use Rattle.mk_exact.proofs.trading.solvent_stays.Goals as goal
use Rattle.mk_exact.proofs.Solvent.{solvent_stays}

pub returns : goal.returns
returns c = solvent_stays
