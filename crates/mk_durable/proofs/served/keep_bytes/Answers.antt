use Rattle.std.proofs.Common.{Ok, inl, inr, refl, sym, ap, subst, ◌∙◌}
use Rattle.mk_exact.specs.Market.{Market}
use Rattle.mk_file.specs.File.{file_of}
use Rattle.mk_file.specs.MarketOf.{market_of}
use Rattle.mk_journal.specs.Moments.{LeavesOnly}
use Rattle.mk_journal.specs.inner.MomentLaws.{started, then as and_then, weaken}
use Rattle.mk_durable.specs.Recovery.{IsHonest}
use Rattle.mk_durable.specs.KeepOutcome.{OpenedKeep, KeepsChanges, GivesSound}
use Rattle.mk_durable.specs.inner.Preparing.{AreHonestTo}
use Rattle.mk_durable.proofs.Carrying.{wants_for_file, refused_file, stopped_silent, stopped_before}
use Rattle.mk_durable.proofs.Carrying.{same_market, stops_well, file_is_few, keeps_still}
use Rattle.mk_durable.proofs.Carrying.{causes_alone}
use Rattle.mk_durable.proofs.served.keep_bytes.Goals as goal

pub returns-in-Err-clause-outcome : goal.returns-in-Err-clause-outcome
returns-in-Err-clause-outcome g c = λ market stored all given told_all told_file sound.
    stopped_silent c.refuse.result market c.args.bytes.items stored all
    (g.I.Inputs.commands c.args.inputs.now) (g.S.Sink.written c.args.out.now)
    (g.S.Sink.written c.refuse.new.out)
    (wants_for_file c.refuse.result c.in-Err.fault market c.args.bytes.items
    (g.S.Sink.written c.args.out.now) (g.S.Sink.written c.refuse.new.out)
    c.refuse.ensures.line
    (λ known. ap file_of (sym c.as_slice.ensures.value) ∙ c.in-Err.ensures.refused known) given)
    told_all

pub returns-in-Err-clause-kept : goal.returns-in-Err-clause-kept
returns-in-Err-clause-kept g c = λ market stored all given told_all told_file honest.
    inl (
      (wants_for_file c.refuse.result c.in-Err.fault market c.args.bytes.items
          (g.S.Sink.written c.args.out.now) (g.S.Sink.written c.refuse.new.out)
          c.refuse.ensures.line
          (λ known. ap file_of (sym c.as_slice.ensures.value) ∙ c.in-Err.ensures.refused known)
          given).1,
      started (λ d left. inl (g.met.K.Disk.only_now c.args.disk.now c.args.store.now d left)),
    )

pub returns-in-Err-clause-refused : goal.returns-in-Err-clause-refused
returns-in-Err-clause-refused g c = λ fault given. (
  refused_file c.refuse.result c.in-Err.fault fault c.args.bytes.items
      (g.S.Sink.written c.args.out.now) (g.S.Sink.written c.refuse.new.out)
      c.refuse.ensures.line
      (λ known. ap file_of (sym c.as_slice.ensures.value) ∙ c.in-Err.ensures.refused known) given,
  refl,
  refl,
)

pub returns-in-Err-clause-complete : goal.returns-in-Err-clause-complete
returns-in-Err-clause-complete g c = λ market stored all given told_all told_file honest within
    disk_steady inputs_steady sink_steady.
    inr (wants_for_file c.refuse.result c.in-Err.fault market c.args.bytes.items
    (g.S.Sink.written c.args.out.now) (g.S.Sink.written c.refuse.new.out)
    c.refuse.ensures.line
    (λ known. ap file_of (sym c.as_slice.ensures.value) ∙ c.in-Err.ensures.refused known) given).0

pub returns-in-Err-clause-causes : goal.returns-in-Err-clause-causes
returns-in-Err-clause-causes g c =
    causes_alone c.refuse.result (g.K.Disk.faults c.args.disk.now)
    (g.I.Inputs.faults c.args.inputs.now) (g.S.Sink.faults c.args.out.now)
    (g.S.Sink.faults c.refuse.new.out) c.refuse.ensures.causes

pub returns-in-Ok-open_place-clause-outcome : goal.returns-in-Ok-open_place-clause-outcome
returns-in-Ok-open_place-clause-outcome g c = λ market stored all given told_all told_file sound.
    let bytes = c.args.bytes.items in
    let same = same_market bytes market (market_of c.in-Ok.file)
    (ap file_of (sym c.as_slice.ensures.value) ∙ c.in-Ok.ensures.accepted) given in
    subst (λ (m : Market). OpenedKeep c.keep_file.result (Ok m) bytes stored all
    (g.I.Inputs.commands c.keep_file.new.inputs) (g.S.Sink.written c.args.out.now)
    (g.S.Sink.written c.keep_file.new.out)) same
    (c.keep_file.ensures.outcome c.args.store.now bytes stored all
    (sym c.in-Ok-open_place.ensures.opened_name)
    (c.in-Ok-open_place.ensures.place (file_is_few bytes market given)) told_all
    (c.open_place.ensures.files c.args.store.now ∙ told_file)
    (subst (λ (m : Market). GivesSound m bytes stored) (sym same) sound))

pub returns-in-Ok-open_place-clause-kept : goal.returns-in-Ok-open_place-clause-kept
returns-in-Ok-open_place-clause-kept g c = λ market stored all given told_all told_file honest.
    let bytes = c.args.bytes.items in
    let n = c.args.store.now in
    let same = same_market bytes market (market_of c.in-Ok.file)
    (ap file_of (sym c.as_slice.ensures.value) ∙ c.in-Ok.ensures.accepted) given in
    keeps_still market bytes stored all (g.S.Sink.written c.args.out.now)
    (g.S.Sink.written c.keep_file.new.out) (g.K.Disk.may_leave c.open_place.new.disk n)
    (g.K.Disk.may_leave c.args.disk.now n) (g.K.Disk.may_leave c.keep_file.new.disk n)
    (LeavesOnly (g.K.Disk.moment c.open_place.new.disk) (g.K.Disk.moment c.keep_file.new.disk)
    (g.K.Disk.left_since c.open_place.new.disk n) (g.K.Disk.left_since c.keep_file.new.disk n))
    (LeavesOnly (g.K.Disk.moment c.args.disk.now) (g.K.Disk.moment c.keep_file.new.disk)
    (g.K.Disk.left_since c.args.disk.now n) (g.K.Disk.left_since c.keep_file.new.disk n))
    (c.open_place.ensures.images n)
    (λ P Q was more moments. and_then (weaken was (c.open_place.ensures.any_moment n))
    (weaken more moments))
    (subst (λ (m : Market). KeepsChanges (Ok m) bytes stored all
    (g.S.Sink.written c.args.out.now) (g.S.Sink.written c.keep_file.new.out)
    (g.K.Disk.may_leave c.open_place.new.disk n) (g.K.Disk.may_leave c.keep_file.new.disk n)
    (LeavesOnly (g.K.Disk.moment c.open_place.new.disk) (g.K.Disk.moment c.keep_file.new.disk)
    (g.K.Disk.left_since c.open_place.new.disk n)
    (g.K.Disk.left_since c.keep_file.new.disk n))) same
    (c.keep_file.ensures.kept n bytes stored all (sym c.in-Ok-open_place.ensures.opened_name)
    (c.in-Ok-open_place.ensures.place (file_is_few bytes market given)) told_all
    (c.open_place.ensures.files n ∙ told_file)
    (subst (λ (m : Market). AreHonestTo m bytes (g.K.Disk.may_leave c.open_place.new.disk n))
    (sym same) (λ d left. honest d (c.open_place.ensures.images n d left)))))

pub returns-in-Ok-open_place-clause-complete : goal.returns-in-Ok-open_place-clause-complete
returns-in-Ok-open_place-clause-complete g c = λ market stored all given told_all told_file honest
    within disk_steady inputs_steady sink_steady.
    let bytes = c.args.bytes.items in
    let same = same_market bytes market (market_of c.in-Ok.file)
    (ap file_of (sym c.as_slice.ensures.value) ∙ c.in-Ok.ensures.accepted) given in
    c.keep_file.ensures.complete c.args.store.now bytes stored all
    (sym c.in-Ok-open_place.ensures.opened_name)
    (c.in-Ok-open_place.ensures.place (file_is_few bytes market given)) told_all
    (c.open_place.ensures.files c.args.store.now ∙ told_file)
    (subst (λ (m : Market). IsHonest m bytes stored) (sym same) honest) within
    (rw c.in-Ok-open_place.ensures.counts disk_steady) inputs_steady sink_steady

pub returns-in-Err-open_place-clause-outcome : goal.returns-in-Err-open_place-clause-outcome
returns-in-Err-open_place-clause-outcome g c = λ market stored all given told_all told_file sound.
    stopped_before c.in-Err-open_place.status market c.args.bytes.items stored all
    (g.I.Inputs.commands c.args.inputs.now) (g.S.Sink.written c.args.out.now)
    c.in-Err-open_place.ensures.stops told_all

pub returns-in-Err-open_place-clause-kept : goal.returns-in-Err-open_place-clause-kept
returns-in-Err-open_place-clause-kept g c = λ market stored all given told_all told_file honest.
    inl (refl, weaken (λ d was. inl was) (c.open_place.ensures.any_moment c.args.store.now))

pub returns-in-Err-open_place-clause-complete : goal.returns-in-Err-open_place-clause-complete
returns-in-Err-open_place-clause-complete g c = λ market stored all given told_all told_file honest
    within disk_steady inputs_steady sink_steady.
    stops_well c.in-Err-open_place.status (g.K.Disk.faults c.args.disk.now)
    (g.K.Disk.faults c.open_place.new.disk) c.in-Err-open_place.ensures.stops
    (c.in-Err-open_place.ensures.causes 0 0) disk_steady
