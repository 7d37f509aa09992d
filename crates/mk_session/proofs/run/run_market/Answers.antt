use Rattle.std.proofs.Common.{ap, sym, subst, ◌∙◌, ℕ, Result, IsOk}
use Rattle.mk_exact.specs.Market.{Market}
use Rattle.mk_file.specs.declared.fault.FileFault.{FileFault}
use Rattle.mk_file.specs.File.{file_of}
use Rattle.mk_session.specs.Outcome.{HasCauses, status_of}
use Rattle.mk_session.proofs.Serving.{opened_same}
use Rattle.mk_session.proofs.Completing.{completes}
use Rattle.mk_session.proofs.Handing.{ends_back_at, outcome_back, turned_back, opened_status}
use Rattle.mk_session.proofs.Handing.{only_memory}
use Rattle.mk_session.proofs.run.run_market.Goals as goal

pub returns-in-Ok-clause-outcome : goal.returns-in-Ok-clause-outcome
returns-in-Ok-clause-outcome g c = λ file all told_file told_all.
    let same = ap file_of (c.in-Ok.ensures.bytes file told_file) ∙ opened_same file in
    outcome_back c.run_bytes.result file all (g.I.Inputs.commands c.run_bytes.new.inputs)
    (g.S.Sink.written c.args.out.now) (g.S.Sink.written c.run_bytes.new.out)
    (ends_back_at c.run_bytes.result _ _ all (g.I.Inputs.commands c.run_bytes.new.inputs)
    (g.S.Sink.written c.args.out.now) (g.S.Sink.written c.run_bytes.new.out) same
    (c.run_bytes.ensures.outcome all (c.load.ensures.commands ∙ told_all)))

pub returns-in-Ok-clause-refused : goal.returns-in-Ok-clause-refused
returns-in-Ok-clause-refused g c = λ file fault told_file given.
    turned_back c.run_bytes.result fault (g.I.Inputs.commands c.args.inputs.now)
    (g.I.Inputs.commands c.load.new.inputs) (g.I.Inputs.commands c.run_bytes.new.inputs)
    (g.S.Sink.written c.args.out.now) (g.S.Sink.written c.run_bytes.new.out)
    c.load.ensures.commands
    (c.run_bytes.ensures.refused fault (ap file_of (c.in-Ok.ensures.bytes file told_file)
    ∙ opened_same file ∙ given))

pub returns-in-Ok-clause-complete : goal.returns-in-Ok-clause-complete
returns-in-Ok-clause-complete g c = λ file all told_file told_all ok within steady_inputs
    steady_sink.
    let same = ap file_of (c.in-Ok.ensures.bytes file told_file) ∙ opened_same file in
    only_memory c.run_bytes.result c.run_bytes.ensures.not_done
    (completes (status_of c.run_bytes.result) (file_of c.in-Ok.bytes.items) all
    (g.I.Inputs.commands c.run_bytes.new.inputs)
    (g.S.Sink.written c.args.out.now) (g.S.Sink.written c.run_bytes.new.out)
    (g.I.Inputs.faults c.args.inputs.now) (g.I.Inputs.faults c.run_bytes.new.inputs)
    (g.S.Sink.faults c.args.out.now) (g.S.Sink.faults c.run_bytes.new.out)
    (opened_status c.run_bytes.result _ all (g.I.Inputs.commands c.run_bytes.new.inputs)
    (g.S.Sink.written c.args.out.now) (g.S.Sink.written c.run_bytes.new.out)
    (c.run_bytes.ensures.outcome all (c.load.ensures.commands ∙ told_all)))
    (subst (λ (given : Result Market FileFault). IsOk given) (sym same) ok) within
    (subst (λ (n : ℕ). HasCauses (status_of c.run_bytes.result) n
    (g.I.Inputs.faults c.run_bytes.new.inputs)
    (g.S.Sink.faults c.args.out.now) (g.S.Sink.faults c.run_bytes.new.out))
    c.in-Ok.ensures.cause c.run_bytes.ensures.causes) steady_inputs steady_sink)
