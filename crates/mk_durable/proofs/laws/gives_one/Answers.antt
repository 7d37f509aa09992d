use Rattle.mk_durable.proofs.laws.gives_one.Goals as goal
use Rattle.mk_durable.proofs.Refusing.{gives_one}

pub returns : goal.returns
returns c = gives_one
