use Rattle.std.proofs.Common.{refl}
use Rattle.mk_evidence.proofs.evidence_of_spreads.told.Goals as goal

pub returns-in-Ok-clause-told : goal.returns-in-Ok-clause-told
returns-in-Ok-clause-told g c = rw c.in-Ok.is refl

pub refuse_stopped-requires : goal.refuse_stopped-requires
refuse_stopped-requires g c = rw c.in-Err.is at c.requires

pub returns-in-Err-clause-told : goal.returns-in-Err-clause-told
returns-in-Err-clause-told g c = rw c.in-Err.is c.refuse_stopped.ensures.refusal
