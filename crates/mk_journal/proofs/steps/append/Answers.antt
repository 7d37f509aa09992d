use Rattle.std.proofs.Common.{◌+◌, ◌<◌, IfSome, ◌∷◌, ◌++◌, length, inl, sym, ap, ◌∙◌, subst, OnOk}
use Rattle.mk_journal.specs.Kept.{IsSettled, IsStaged}
use Rattle.mk_journal.specs.inner.MomentLaws.{weaken, then}
use Rattle.mk_journal.proofs.Stages.{split, settled_kept, torn_started, staged_then, reached}
use Rattle.mk_journal.proofs.steps.append.Goals as goal

pub returns-in_err-write_synced-clause-any_moment :
    goal.returns-in_err-write_synced-clause-any_moment
returns-in_err-write_synced-clause-any_moment g c n market r records group named body are settled =
    weaken (λ file torn. inl (torn_started settled (length c.args.body.now) file torn))
    (c.write_synced.ensures.any_moment n (split settled) named (settled_kept settled))

pub returns-clause-any_moment : goal.returns-clause-any_moment
returns-clause-any_moment g c n market r records group named body are settled =
    let first = weaken (λ file torn. inl (torn_started settled (length c.args.body.now) file torn))
    (c.write_synced.ensures.any_moment n (split settled) named (settled_kept settled)) in
    let staged = staged_then settled c.args.body.now
    (c.in_ok-write_synced.ensures.kept n (split settled) named (settled_kept settled)) in
    let is_staged = subst (IsStaged (g.K.Disk.file c.write_synced.new.disk n)
    (g.K.Disk.may_leave c.write_synced.new.disk n) market records c.args.gate) body staged in
    then first (c.open_gate.ensures.any_moment n market r records group (named
    ∙ sym c.write_synced.ensures.stays_name) are is_staged)

pub returns-clause-settled : goal.returns-clause-settled
returns-clause-settled g c n market r records group named body are settled =
    let staged = staged_then settled c.args.body.now
    (c.in_ok-write_synced.ensures.kept n (split settled) named (settled_kept settled)) in
    let is_staged = subst (IsStaged (g.K.Disk.file c.write_synced.new.disk n)
    (g.K.Disk.may_leave c.write_synced.new.disk n) market records c.args.gate) body staged in
    subst (λ k. OnOk c.open_gate.result
    (IsSettled (g.K.Disk.file c.open_gate.new.disk n)
    (g.K.Disk.may_leave c.open_gate.new.disk n) market (records ++ r ∷ group)
    (c.args.gate + k))) (sym (ap length body))
    (c.open_gate.ensures.settled n market r records group (named
    ∙ sym c.write_synced.ensures.stays_name) are is_staged)

pub returns-clause-place : goal.returns-clause-place
returns-clause-place g c =
    let end = c.args.gate + length c.args.body.now in
    let written = subst (λ o. IfSome o (λ f. end < length f))
    (sym c.in_ok-write_synced.ensures.written)
    (reached (g.K.Disk.file c.args.disk.now (g.K.Disk.open_name c.args.disk.now)) c.args.gate
    c.args.body.now c.requires.place) in
    let place = subst (λ m. IfSome (g.K.Disk.file c.write_synced.new.disk m) (λ f. end < length f))
    (sym c.write_synced.ensures.stays_name) written in
    subst (λ m. OnOk c.open_gate.result
    (IfSome (g.K.Disk.file c.open_gate.new.disk m) (λ f. end < length f)))
    c.write_synced.ensures.stays_name (c.open_gate.ensures.reached end place)
