use Rattle.std.proofs.Common.{ap, sym, subst, ◌∙◌, inr, ℕ, Result, IsOk}
use Rattle.mk_exact.specs.Market.{Market}
use Rattle.mk_file.specs.declared.fault.FileFault.{FileFault}
use Rattle.mk_file.specs.File.{file_of}
use Rattle.mk_session.specs.Outcome.{Opened, HasCauses}
use Rattle.mk_session.proofs.Serving.{opened_same, turned_from}
use Rattle.mk_session.proofs.Completing.{completes}
use Rattle.mk_session.proofs.run.serve.Goals as goal

pub returns-in-Ok-clause-outcome : goal.returns-in-Ok-clause-outcome
returns-in-Ok-clause-outcome g c = λ file all told_file told_all.
    let same = ap file_of (c.in-Ok.ensures.bytes file told_file) ∙ opened_same file in
    inr (subst (λ (given : Result Market FileFault). Opened c.serve_bytes.result given all
    (g.I.Inputs.commands c.serve_bytes.new.inputs)
    (g.S.Sink.written c.args.out.now) (g.S.Sink.written c.serve_bytes.new.out)) same
    (c.serve_bytes.ensures.outcome all (c.load.ensures.commands ∙ told_all)))

pub returns-in-Ok-clause-refused : goal.returns-in-Ok-clause-refused
returns-in-Ok-clause-refused g c = λ file fault told_file given.
    turned_from c.serve_bytes.result fault (g.I.Inputs.commands c.args.inputs.now)
    (g.I.Inputs.commands c.load.new.inputs) (g.I.Inputs.commands c.serve_bytes.new.inputs)
    (g.S.Sink.written c.args.out.now) (g.S.Sink.written c.serve_bytes.new.out)
    c.load.ensures.commands
    (c.serve_bytes.ensures.refused fault (ap file_of (c.in-Ok.ensures.bytes file told_file)
    ∙ opened_same file ∙ given))

pub returns-in-Ok-clause-complete : goal.returns-in-Ok-clause-complete
returns-in-Ok-clause-complete g c = λ file all told_file told_all ok within steady_inputs
    steady_sink.
    let same = ap file_of (c.in-Ok.ensures.bytes file told_file) ∙ opened_same file in
    completes c.serve_bytes.result (file_of c.in-Ok.bytes.items) all
    (g.I.Inputs.commands c.serve_bytes.new.inputs)
    (g.S.Sink.written c.args.out.now) (g.S.Sink.written c.serve_bytes.new.out)
    (g.I.Inputs.faults c.args.inputs.now) (g.I.Inputs.faults c.serve_bytes.new.inputs)
    (g.S.Sink.faults c.args.out.now) (g.S.Sink.faults c.serve_bytes.new.out)
    (c.serve_bytes.ensures.outcome all (c.load.ensures.commands ∙ told_all))
    (subst (λ (given : Result Market FileFault). IsOk given) (sym same) ok) within
    (subst (λ (n : ℕ). HasCauses c.serve_bytes.result n (g.I.Inputs.faults c.serve_bytes.new.inputs)
    (g.S.Sink.faults c.args.out.now) (g.S.Sink.faults c.serve_bytes.new.out))
    c.in-Ok.ensures.cause c.serve_bytes.ensures.causes) steady_inputs steady_sink
