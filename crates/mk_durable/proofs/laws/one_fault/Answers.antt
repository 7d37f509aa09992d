use Rattle.mk_durable.proofs.laws.one_fault.Goals as goal
use Rattle.mk_durable.proofs.Refusing.{one_fault}

pub returns : goal.returns
returns c = one_fault
