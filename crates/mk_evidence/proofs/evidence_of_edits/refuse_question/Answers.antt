use Rattle.mk_evidence.proofs.Evidenced.{request_found}
use Rattle.mk_evidence.proofs.evidence_of_edits.refuse_question.Goals as goal

pub returns-in-Some-clause-refusal : goal.returns-in-Some-clause-refusal
returns-in-Some-clause-refusal g c = rw c.in-Some.is c.refuse_edit.ensures.refusal

pub returns-in-Some-clause-request : goal.returns-in-Some-clause-request
returns-in-Some-clause-request g c = request_found _ _ _ _ c.refuse_edit.result
    c.refuse_edit.ensures.user c.refuse_edit.ensures.question c.refuse_edit.ensures.home

pub returns-in-None-clause-refusal : goal.returns-in-None-clause-refusal
returns-in-None-clause-refusal g c = rw c.in-None.is c.refuse_limits.ensures.refusal

pub returns-in-None-clause-request : goal.returns-in-None-clause-request
returns-in-None-clause-request g c = request_found _ _ _ _ c.refuse_limits.result
    c.refuse_limits.ensures.user c.refuse_limits.ensures.question c.refuse_limits.ensures.home
