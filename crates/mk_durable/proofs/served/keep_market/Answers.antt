use Rattle.std.proofs.Common.{ℕ, List, length, inl, inr, sym, ap, subst, ◌∙◌, arith}
use Rattle.mk_journal.specs.inner.MomentLaws.{weaken}
use Rattle.mk_journal.proofs.Heads.{length-begun}
use Rattle.mk_session.specs.Outcome.{HasKeepCauses}
use Rattle.mk_durable.specs.declared.fault.ResumeFault.{ResumeFault}
use Rattle.mk_durable.specs.Resuming.{IsCounted}
use Rattle.mk_durable.proofs.Carrying.{stopped, nothing_told, resumes_as_before, wants_memory}
use Rattle.mk_durable.proofs.Carrying.{never_usage, can_go_on, carried_on, kept_on, done_well}
use Rattle.mk_durable.proofs.Carrying.{stands_given}
use Rattle.mk_durable.proofs.served.keep_market.Goals as goal

pub resume-requires-clause-size : goal.resume-requires-clause-size
resume-requires-clause-size g c =
    let place = c.requires.place.1 in
    omega (
      arith,
      ap (λ (l : List ℕ). length l) (c.deref.ensures.value ∙ place.header),
      length-begun c.requires.place.0,
      place.few,
    )

pub returns-in-Err-clause-outcome : goal.returns-in-Err-clause-outcome
returns-in-Err-clause-outcome g c = λ n bytes stored all named place told_all told_file sound.
    stopped c.stop.result c.in-Err.fault c.args.market.now.market bytes stored all
    (g.I.Inputs.commands c.args.inputs.now) (g.S.Sink.written c.args.out.now)
    (g.S.Sink.written c.stop.new.out) told_all c.stop.ensures.output
    (c.in-Err.ensures.refused n bytes stored named (c.deref.ensures.value ∙ place.header)
    told_file)

pub returns-in-Err-clause-kept : goal.returns-in-Err-clause-kept
returns-in-Err-clause-kept g c = λ n bytes stored all named place told_all told_file honest.
    let header = c.deref.ensures.value ∙ place.header in
    let is_image = g.met.K.Disk.is_image c.args.disk.now n stored told_file in
    let images = g.K.Disk.may_leave c.args.disk.now n in
    inl (
      nothing_told c.stop.result c.in-Err.fault c.args.market.now.market bytes stored
          (g.S.Sink.written c.args.out.now) (g.S.Sink.written c.stop.new.out)
          (honest stored is_image) c.stop.ensures.output
          (c.in-Err.ensures.refused n bytes stored named header told_file),
      weaken (λ d is. resumes_as_before bytes stored images images d is_image (λ e was. was) is)
          (c.resume.ensures.any_moment n bytes stored named header told_file),
    )

pub returns-in-Err-clause-complete : goal.returns-in-Err-clause-complete
returns-in-Err-clause-complete g c = λ n bytes stored all named place told_all told_file honest
    within disk_steady inputs_steady sink_steady.
    inr (wants_memory c.stop.result c.in-Err.fault c.args.market.now.market bytes stored
    c.stop.ensures.output.bytes honest c.stop.ensures.output.holds
    (c.in-Err.ensures.refused n bytes stored named (c.deref.ensures.value ∙ place.header)
    told_file)
    (λ e. disk_steady (subst (λ (f : ResumeFault). IsCounted (g.K.Disk.faults c.args.disk.now)
    (g.K.Disk.faults c.resume.new.disk) f) e c.in-Err.ensures.fault)))

pub returns-in-Err-clause-causes : goal.returns-in-Err-clause-causes
returns-in-Err-clause-causes g c =
    c.stop.ensures.causes (g.I.Inputs.faults c.args.inputs.now) (g.K.Disk.faults c.args.disk.now)
    (g.K.Disk.faults c.resume.new.disk) c.in-Err.ensures.fault c.in-Err.ensures.later

pub returns-in-Err-clause-not_usage : goal.returns-in-Err-clause-not_usage
returns-in-Err-clause-not_usage g c =
    never_usage c.stop.result c.in-Err.fault c.stop.ensures.output.bytes
    c.stop.ensures.output.holds

pub returns-clause-outcome : goal.returns-clause-outcome
returns-clause-outcome g c = λ n bytes stored all named place told_all told_file sound.
    let now = c.resume.new.market in
    let market = c.args.market.now.market in
    let it = c.in-Ok.ensures.resumed n bytes stored named (c.deref.ensures.value ∙ place.header)
    told_file in
    carried_on market now.standing c.in-Ok.resumed.count
    c.resume.ensures.quotes c.in-Ok.ensures.count bytes stored all it.records it.gives
    (g.S.Sink.written c.args.out.now) (g.S.Sink.written c.serve_from.new.out)
    c.serve_from.result (g.I.Inputs.commands c.serve_from.new.inputs)
    (c.serve_from.ensures.served market all c.resume.ensures.market told_all
    (can_go_on market now c.requires.is_market c.resume.ensures.market c.resume.ensures.quotes
    (sound it.records now.standing.history it.gives) c.history.ensures.safe))

pub returns-clause-kept : goal.returns-clause-kept
returns-clause-kept g c = λ n bytes stored all named place told_all told_file honest.
    let header = c.deref.ensures.value ∙ place.header in
    let is_image = g.met.K.Disk.is_image c.args.disk.now n stored told_file in
    let images = g.K.Disk.may_leave c.args.disk.now n in
    let now = c.resume.new.market in
    let market = c.args.market.now.market in
    let it = c.in-Ok.ensures.resumed n bytes stored named header told_file in
    let own = honest stored is_image in
    kept_on market now.standing c.in-Ok.resumed.count
    c.resume.ensures.quotes c.in-Ok.ensures.count bytes stored all it.records it.gives
    (g.S.Sink.written c.args.out.now) (g.S.Sink.written c.serve_from.new.out)
    images (g.K.Disk.may_leave c.serve_from.new.disk n)
    (g.K.Disk.moment c.args.disk.now) (g.K.Disk.moment c.resume.new.disk)
    (g.K.Disk.moment c.serve_from.new.disk)
    (g.K.Disk.left_since c.args.disk.now n) (g.K.Disk.left_since c.resume.new.disk n)
    (g.K.Disk.left_since c.serve_from.new.disk n)
    (weaken (λ d is. resumes_as_before bytes stored images images d is_image (λ e was. was) is)
    (c.resume.ensures.any_moment n bytes stored named header told_file))
    (c.serve_from.ensures.left market all n bytes it.records c.resume.ensures.market told_all
    (can_go_on market now c.requires.is_market c.resume.ensures.market c.resume.ensures.quotes
    (stands_given market bytes stored it.records now.standing.history own it.gives)
    c.history.ensures.safe)
    (named ∙ sym c.resume.ensures.stays_name, it.held))

pub returns-clause-complete : goal.returns-clause-complete
returns-clause-complete g c = λ n bytes stored all named place told_all told_file honest
    within disk_steady inputs_steady sink_steady.
    let header = c.deref.ensures.value ∙ place.header in
    let now = c.resume.new.market in
    let market = c.args.market.now.market in
    let it = c.in-Ok.ensures.resumed n bytes stored named header told_file in
    done_well c.serve_from.result _ all (g.I.Inputs.commands c.serve_from.new.inputs)
    (g.S.Sink.written c.args.out.now) (g.S.Sink.written c.serve_from.new.out)
    (g.K.Disk.faults c.args.disk.now) (g.K.Disk.faults c.serve_from.new.disk)
    (g.I.Inputs.faults c.args.inputs.now) (g.I.Inputs.faults c.serve_from.new.inputs)
    (g.S.Sink.faults c.args.out.now) (g.S.Sink.faults c.serve_from.new.out)
    (c.serve_from.ensures.served market all c.resume.ensures.market told_all
    (can_go_on market now c.requires.is_market c.resume.ensures.market c.resume.ensures.quotes
    (stands_given market bytes stored it.records now.standing.history honest it.gives)
    c.history.ensures.safe))
    c.serve_from.ensures.ends within
    (subst (λ (d : ℕ). HasKeepCauses c.serve_from.result d (g.K.Disk.faults c.serve_from.new.disk)
    (g.I.Inputs.faults c.args.inputs.now) (g.I.Inputs.faults c.serve_from.new.inputs)
    (g.S.Sink.faults c.args.out.now) (g.S.Sink.faults c.serve_from.new.out)) c.in-Ok.ensures.ok
    c.serve_from.ensures.causes)
    disk_steady inputs_steady sink_steady
