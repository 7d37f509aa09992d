use Rattle.mk_durable.proofs.laws.refuses_no_honest.Goals as goal
use Rattle.mk_durable.proofs.Refusing.{refuses_no_honest}

pub returns : goal.returns
returns c = refuses_no_honest
