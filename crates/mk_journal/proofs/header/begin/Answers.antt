use Rattle.std.proofs.Common.{inl, [], refl, sym, ◌∙◌, ap, ◌<◌, length, subst, IfSome, OnOk}
use Rattle.mk_journal.specs.Kept.{IsSettled}
use Rattle.mk_journal.specs.inner.MomentLaws.{weaken, then}
use Rattle.mk_journal.proofs.header.begin.Goals as goal

pub returns-in_err-prepare-clause-any_moment : goal.returns-in_err-prepare-clause-any_moment
returns-in_err-prepare-clause-any_moment g c n market f named body unstarted kept =
    weaken (λ file is. inl (is, refl)) (c.prepare.ensures.any_moment n market f named body unstarted kept)

pub returns-clause-place : goal.returns-clause-place
returns-clause-place g c =
    let end = length c.args.body.now in
    let place = subst (λ m. IfSome (g.K.Disk.file c.prepare.new.disk m) (λ f. end < length f)) (sym c.prepare.ensures.stays_name) c.in_ok-prepare.ensures.place in
    subst (λ m. OnOk c.open_header.result (IfSome (g.K.Disk.file c.open_header.new.disk m) (λ f. end < length f))) c.prepare.ensures.stays_name (c.open_header.ensures.reached end place)

pub returns-clause-settled : goal.returns-clause-settled
returns-clause-settled g c n market f named body unstarted kept =
    let headed = c.in_ok-prepare.ensures.headed n market f named body unstarted kept in
    subst (λ k. OnOk c.open_header.result (IsSettled (g.K.Disk.file c.open_header.new.disk n) (g.K.Disk.may_leave c.open_header.new.disk n) market [] k)) (sym (ap length body))
    (c.open_header.ensures.settled n market (named ∙ sym c.prepare.ensures.stays_name) headed)

pub returns-clause-any_moment : goal.returns-clause-any_moment
returns-clause-any_moment g c n market f named body unstarted kept =
    let headed = c.in_ok-prepare.ensures.headed n market f named body unstarted kept in
    then (weaken (λ file is. inl (is, refl)) (c.prepare.ensures.any_moment n market f named body unstarted kept))
    (c.open_header.ensures.any_moment n market (named ∙ sym c.prepare.ensures.stays_name) headed)
