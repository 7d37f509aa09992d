use Rattle.std.proofs.Common.{◌≡◌, ℕ, List, Option, Some, ap, sym, subst, ◌∙◌}
use Rattle.mk_file.specs.File.{file_of}
use Rattle.mk_durable.specs.KeepOutcome.{KeepsChanges, AreHonest}
use Rattle.mk_durable.proofs.Carrying.{causes_alone}
use Rattle.daggre.specs.Words.{Asked, market_named}
use Rattle.daggre.proofs.program.program.Goals as goal

pub returns-in-Some-Run-clause-refused : goal.returns-in-Some-Run-clause-refused
returns-in-Some-Run-clause-refused g c = λ name file fault asked told given.
    let read = rw c.in-Some-Run.field-0-is at c.in-Some-Run.ensures.asked in
    let found : Some c.in-Some-Run.name.now ≡ Some name =
    ap (λ (o : Option Asked). market_named o) read ∙ asked in
    let same : c.in-Some-Run.name.now ≡ name = cc in
    c.serve.ensures.refused file fault (ap (g.I.Inputs.file c.args.inputs.now) same ∙ told) given

pub returns-in-Some-RunThen-clause-refused : goal.returns-in-Some-RunThen-clause-refused
returns-in-Some-RunThen-clause-refused g c = λ name file fault asked told given.
    let read = rw c.in-Some-RunThen.field-0-is at c.in-Some-RunThen.ensures.asked in
    let found : Some c.in-Some-RunThen.name.now ≡ Some name =
    ap (λ (o : Option Asked). market_named o) read ∙ asked in
    let same : c.in-Some-RunThen.name.now ≡ name = cc in
    c.run_ask.ensures.refused file fault (ap (g.I.Inputs.file c.args.inputs.now) same ∙ told) given

pub returns-in-Some-Keep-clause-kept : goal.returns-in-Some-Keep-clause-kept
returns-in-Some-Keep-clause-kept g c = λ name store file stored all asked told_file told_all
    told_stored honest.
    let read = rw c.in-Some-Keep.field-0-is at c.in-Some-Keep.ensures.asked in
    let both = read ∙ asked in
    let same : c.in-Some-Keep.name.now ≡ name = cc in
    let place : c.in-Some-Keep.store.now ≡ store = cc in
    subst (λ (s : List ℕ). KeepsChanges (file_of file) file stored all
    (g.S.Sink.written c.args.out.now) (g.S.Sink.written c.keep.new.out)
    (g.K.Disk.may_leave c.args.disk.now s) (g.K.Disk.may_leave c.keep.new.disk s)
    (λ P. (d : List ℕ) → g.K.Disk.left_since c.keep.new.disk s
    (g.K.Disk.moment c.args.disk.now) d → P d)) place
    (c.keep.ensures.kept file stored all
    (ap (g.I.Inputs.file c.args.inputs.now) same ∙ told_file) told_all
    (ap (g.K.Disk.file c.args.disk.now) place ∙ told_stored)
    (subst (λ (s : List ℕ). AreHonest file (g.K.Disk.may_leave c.args.disk.now s)) (sym place)
    honest))

pub returns-in-Some-Keep-clause-keep_complete : goal.returns-in-Some-Keep-clause-keep_complete
returns-in-Some-Keep-clause-keep_complete g c = λ name store file stored all asked told_file
    told_all told_stored honest ok within disk_steady inputs_steady sink_steady.
    let read = rw c.in-Some-Keep.field-0-is at c.in-Some-Keep.ensures.asked in
    let both = read ∙ asked in
    let same : c.in-Some-Keep.name.now ≡ name = cc in
    let place : c.in-Some-Keep.store.now ≡ store = cc in
    c.keep.ensures.complete file stored all
    (ap (g.I.Inputs.file c.args.inputs.now) same ∙ told_file) told_all
    (ap (g.K.Disk.file c.args.disk.now) place ∙ told_stored) honest ok within disk_steady
    inputs_steady sink_steady

pub returns-in-Some-Keep-clause-refused : goal.returns-in-Some-Keep-clause-refused
returns-in-Some-Keep-clause-refused g c = λ name file fault asked told given.
    let read = rw c.in-Some-Keep.field-0-is at c.in-Some-Keep.ensures.asked in
    let found : Some c.in-Some-Keep.name.now ≡ Some name =
    ap (λ (o : Option Asked). market_named o) read ∙ asked in
    let same : c.in-Some-Keep.name.now ≡ name = cc in
    c.keep.ensures.refused file fault (ap (g.I.Inputs.file c.args.inputs.now) same ∙ told) given

pub returns-in-Some-Sample-clause-keep_causes : goal.returns-in-Some-Sample-clause-keep_causes
returns-in-Some-Sample-clause-keep_causes g c =
    causes_alone c.run_sample.result (g.K.Disk.faults c.args.disk.now)
    (g.I.Inputs.faults c.args.inputs.now) (g.S.Sink.faults c.args.out.now)
    (g.S.Sink.faults c.run_sample.new.out) c.run_sample.ensures.causes

pub returns-in-None-clause-keep_causes : goal.returns-in-None-clause-keep_causes
returns-in-None-clause-keep_causes g c =
    causes_alone c.explain.result (g.K.Disk.faults c.args.disk.now)
    (g.I.Inputs.faults c.args.inputs.now) (g.S.Sink.faults c.args.out.now)
    (g.S.Sink.faults c.explain.new.out) c.explain.ensures.causes

pub returns-in-Some-Audit-clause-refused : goal.returns-in-Some-Audit-clause-refused
returns-in-Some-Audit-clause-refused g c = λ name file fault asked told given.
    let read = rw c.in-Some-Audit.field-0-is at c.in-Some-Audit.ensures.asked in
    let found : Some c.in-Some-Audit.name.now ≡ Some name =
    ap (λ (o : Option Asked). market_named o) read ∙ asked in
    let same : c.in-Some-Audit.name.now ≡ name = cc in
    c.audit_named.ensures.refused file fault (ap (g.I.Inputs.file c.args.inputs.now) same ∙ told)
    given

pub returns-in-Some-Audit-clause-audit : goal.returns-in-Some-Audit-clause-audit
returns-in-Some-Audit-clause-audit g c = λ name transcript file text all asked told_file told_text
    told_all.
    let read = rw c.in-Some-Audit.field-0-is at c.in-Some-Audit.ensures.asked in
    let both = read ∙ asked in
    let same : c.in-Some-Audit.name.now ≡ name = cc in
    let other : c.in-Some-Audit.transcript.now ≡ transcript = cc in
    c.audit_named.ensures.outcome file text all
    (ap (g.I.Inputs.file c.args.inputs.now) same ∙ told_file)
    (ap (g.I.Inputs.file c.args.inputs.now) other ∙ told_text) told_all
