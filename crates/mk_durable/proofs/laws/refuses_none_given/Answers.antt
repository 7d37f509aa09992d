use Rattle.mk_durable.proofs.laws.refuses_none_given.Goals as goal
use Rattle.mk_durable.proofs.Refusing.{refuses_none_given}

pub returns : goal.returns
returns c = refuses_none_given
