use Rattle.std.proofs.Common.{Result, ap, sym, subst, ◌∙◌}
use Rattle.mk_exact.specs.Market.{Market}
use Rattle.mk_file.specs.declared.fault.FileFault.{FileFault}
use Rattle.mk_file.specs.File.{file_of}
use Rattle.mk_session.specs.Outcome.{Adds}
use Rattle.mk_audit.specs.AuditOutcome.{EndsAudit}
use Rattle.mk_audit.proofs.Telling.{told_refused, turned_refused, accepted_wants}
use Rattle.mk_audit.proofs.served.audit_bytes.Goals as goal

pub returns-in-Err-clause-outcome : goal.returns-in-Err-clause-outcome
returns-in-Err-clause-outcome g c = λ text all told_text told_all.
    told_refused c.refuse.result c.in-Err.fault (file_of c.args.bytes.items) all text
    (g.S.Sink.written c.args.out.now) (g.S.Sink.written c.refuse.new.out)
    c.refuse.ensures.line
    (λ known. ap file_of (sym c.as_slice.ensures.value) ∙ c.in-Err.ensures.refused known)

pub returns-in-Err-clause-refused : goal.returns-in-Err-clause-refused
returns-in-Err-clause-refused g c = λ fault given.
    turned_refused c.refuse.result c.in-Err.fault fault (file_of c.args.bytes.items)
    (g.I.Inputs.commands c.args.inputs.now)
    (g.S.Sink.written c.args.out.now) (g.S.Sink.written c.refuse.new.out)
    c.refuse.ensures.line
    (λ known. ap file_of (sym c.as_slice.ensures.value) ∙ c.in-Err.ensures.refused known) given

pub returns-in-Err-clause-complete : goal.returns-in-Err-clause-complete
returns-in-Err-clause-complete g c = λ all told_all ok within inputs_steady sink_steady.
    accepted_wants c.refuse.result c.in-Err.fault (file_of c.args.bytes.items)
    (g.S.Sink.written c.args.out.now) (g.S.Sink.written c.refuse.new.out)
    c.refuse.ensures.line
    (λ known. ap file_of (sym c.as_slice.ensures.value) ∙ c.in-Err.ensures.refused known) ok

pub returns-in-Ok-clause-outcome : goal.returns-in-Ok-clause-outcome
returns-in-Ok-clause-outcome g c = λ text all told_text told_all.
    subst (λ (given : Result Market FileFault). Adds (g.S.Sink.written c.args.out.now)
    (g.S.Sink.written c.audit_file.new.out) (EndsAudit c.audit_file.result given all text))
    (sym (ap file_of (sym c.as_slice.ensures.value) ∙ c.in-Ok.ensures.accepted))
    (c.audit_file.ensures.outcome text all told_text told_all)

pub returns-in-Ok-clause-refused : goal.returns-in-Ok-clause-refused
returns-in-Ok-clause-refused g c = λ fault given.
    let both = sym given ∙ ap file_of (sym c.as_slice.ensures.value) ∙ c.in-Ok.ensures.accepted in
    absurd (cc)
