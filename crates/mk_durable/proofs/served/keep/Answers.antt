use Rattle.std.proofs.Common.{List, ℕ, inr, ap, ◌∙◌}
use Rattle.mk_file.specs.File.{file_of}
use Rattle.mk_journal.specs.Moments.{LeavesOnly}
use Rattle.mk_session.proofs.Serving.{opened_same}
use Rattle.mk_durable.proofs.Carrying.{carried_by_file, kept_by_file, ok_by_file, keeps_still}
use Rattle.mk_durable.proofs.served.keep.Goals as goal

pub returns-in-Ok-clause-outcome : goal.returns-in-Ok-clause-outcome
returns-in-Ok-clause-outcome g c = λ file stored all told_file told_all told_stored sound.
    inr (carried_by_file c.keep_bytes.result c.in-Ok.bytes.items file stored all
    (g.I.Inputs.commands c.keep_bytes.new.inputs) (g.S.Sink.written c.args.out.now)
    (g.S.Sink.written c.keep_bytes.new.out) (c.in-Ok.ensures.bytes file told_file) sound
    (λ market given holds. c.keep_bytes.ensures.outcome market stored all given
    (c.load.ensures.commands ∙ told_all) told_stored holds)
    (λ fault given. (
      (c.keep_bytes.ensures.refused fault given).0,
      (c.keep_bytes.ensures.refused fault given).1 ∙ c.load.ensures.commands ∙ told_all,
    )))

pub returns-in-Ok-clause-kept : goal.returns-in-Ok-clause-kept
returns-in-Ok-clause-kept g c = λ file stored all told_file told_all told_stored honest.
    let bytes = c.in-Ok.bytes.items in
    let n = c.args.store.now in
    let images = g.K.Disk.may_leave c.args.disk.now n in
    let images_now = g.K.Disk.may_leave c.keep_bytes.new.disk n in
    let began = g.K.Disk.moment c.args.disk.now in
    kept_by_file bytes file stored all (g.S.Sink.written c.args.out.now)
    (g.S.Sink.written c.keep_bytes.new.out) images images_now
    (λ P. (d : List ℕ) → g.K.Disk.left_since c.keep_bytes.new.disk n began d → P d)
    (c.in-Ok.ensures.bytes file told_file) honest
    (λ market given holds. keeps_still market bytes stored all (g.S.Sink.written c.args.out.now)
    (g.S.Sink.written c.keep_bytes.new.out) images images images_now
    (LeavesOnly began (g.K.Disk.moment c.keep_bytes.new.disk)
    (g.K.Disk.left_since c.args.disk.now n) (g.K.Disk.left_since c.keep_bytes.new.disk n))
    (λ P. (d : List ℕ) → g.K.Disk.left_since c.keep_bytes.new.disk n began d → P d)
    (λ d was. was) (λ P Q was more moments d left. more d (moments.each d left))
    (c.keep_bytes.ensures.kept market stored all given (c.load.ensures.commands ∙ told_all)
    told_stored holds))
    (λ fault given. rw (c.keep_bytes.ensures.refused fault given).2
    (g.met.K.Disk.only_now c.args.disk.now n))

pub returns-in-Ok-clause-refused : goal.returns-in-Ok-clause-refused
returns-in-Ok-clause-refused g c = λ file fault told_file given.
    let said = c.keep_bytes.ensures.refused fault (ap file_of (c.in-Ok.ensures.bytes file told_file)
    ∙ opened_same file ∙ given) in
    record { unread = said.1 ∙ c.load.ensures.commands; output = inr said.0 }

pub returns-in-Ok-clause-complete : goal.returns-in-Ok-clause-complete
returns-in-Ok-clause-complete g c = λ file stored all told_file told_all told_stored honest ok
    within disk_steady inputs_steady sink_steady.
    ok_by_file _ c.in-Ok.bytes.items file stored (c.in-Ok.ensures.bytes file told_file) honest ok
    (λ market given holds. c.keep_bytes.ensures.complete market stored all given
    (c.load.ensures.commands ∙ told_all) told_stored holds within disk_steady
    (rw c.in-Ok.ensures.cause inputs_steady) sink_steady)
