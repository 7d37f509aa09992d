use Rattle.mk_grown.proofs.network_stays.Goals as goal
use Rattle.mk_grown.proofs.Present.{network_stays}

pub returns : goal.returns
returns c = network_stays
