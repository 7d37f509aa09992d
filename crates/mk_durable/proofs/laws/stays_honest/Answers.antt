use Rattle.mk_durable.proofs.laws.stays_honest.Goals as goal
use Rattle.mk_durable.proofs.Staying.{stays_honest}

pub returns : goal.returns
returns c = stays_honest
