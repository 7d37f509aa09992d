use Rattle.std.proofs.Common.{List, ℕ, Option, Result, IsOk, inr, ap, sym, subst, ◌∙◌}
use Rattle.mk_exact.specs.Market.{Market}
use Rattle.mk_file.specs.declared.fault.FileFault.{FileFault}
use Rattle.mk_file.specs.File.{file_of}
use Rattle.mk_session.specs.Outcome.{Adds}
use Rattle.mk_session.proofs.Serving.{opened_same, turned_from}
use Rattle.mk_audit.specs.AuditOutcome.{EndsAudit}
use Rattle.mk_audit.proofs.served.audit_named.Goals as goal

pub returns-in-Ok-clause-outcome : goal.returns-in-Ok-clause-outcome
returns-in-Ok-clause-outcome g c = λ file text all told_file told_text told_all.
    let same = ap file_of (c.in-Ok.ensures.bytes file told_file) ∙ opened_same file in
    inr (subst (λ (given : Result Market FileFault). Adds (g.S.Sink.written c.args.out.now)
    (g.S.Sink.written c.audit_bytes.new.out) (EndsAudit c.audit_bytes.result given all text)) same
    (c.audit_bytes.ensures.outcome text all
    (ap (λ (files : List ℕ → Option (List ℕ)). files c.args.transcript.now) c.load.ensures.files
    ∙ told_text) (c.load.ensures.commands ∙ told_all)))

pub returns-in-Ok-clause-refused : goal.returns-in-Ok-clause-refused
returns-in-Ok-clause-refused g c = λ file fault told_file given.
    turned_from c.audit_bytes.result fault (g.I.Inputs.commands c.args.inputs.now)
    (g.I.Inputs.commands c.load.new.inputs) (g.I.Inputs.commands c.audit_bytes.new.inputs)
    (g.S.Sink.written c.args.out.now) (g.S.Sink.written c.audit_bytes.new.out)
    c.load.ensures.commands
    (c.audit_bytes.ensures.refused fault (ap file_of (c.in-Ok.ensures.bytes file told_file)
    ∙ opened_same file ∙ given))

pub returns-in-Ok-clause-complete : goal.returns-in-Ok-clause-complete
returns-in-Ok-clause-complete g c = λ file all told_file told_all ok within inputs_steady
    sink_steady.
    let same = ap file_of (c.in-Ok.ensures.bytes file told_file) ∙ opened_same file in
    c.audit_bytes.ensures.complete all (c.load.ensures.commands ∙ told_all)
    (subst (λ (given : Result Market FileFault). IsOk given) (sym same) ok) within
    (rw c.in-Ok.ensures.cause inputs_steady) sink_steady
