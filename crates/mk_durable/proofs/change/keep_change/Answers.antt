use Rattle.std.proofs.Common.{ℕ, ◌+◌, List, [], subst, ◌∙◌, arith}
use Rattle.mk_journal.specs.Keepers.{IsHeld}
use Rattle.mk_journal.specs.inner.MomentLaws.{weaken, then}
use Rattle.mk_journal.proofs.Stages.{ok_map}
use Rattle.mk_durable.proofs.Keeping.{front_before, front_behind, all_of}
use Rattle.mk_durable.proofs.change.keep_change.Goals as goal

pub keep-requires : goal.keep-requires
keep-requires g c = record {
  ready =
      let n = c.requires.ready.0 in (
        n + 1,
        omega (arith, c.requires.ready.1),
        c.in_ok-take.ensures.ready n
            (omega (arith, c.requires.ready.1)) c.requires.ready.2,
      );
}

pub returns-clause-ready : goal.returns-clause-ready
returns-clause-ready g c n few ready =
    c.keep.ensures.ready (n + 1) (omega (arith, few))
    (c.in_ok-take.ensures.ready n (omega (arith, few)) ready)

pub returns-clause-kept : goal.returns-clause-kept
returns-clause-kept g c n bytes records named held =
    let is = c.as_slice.ensures.value ∙ c.put_record.ensures.record in
    let holds = c.in_ok-take.ensures.taken n bytes records [] (named, held) in
    ok_map c.keep.result
    (λ kept. subst (λ (all : List (List ℕ)). IsHeld (g.K.Disk.file c.keep.new.disk n)
    (g.K.Disk.may_leave c.keep.new.disk n) c.keep.new.self bytes all [])
    (all_of bytes records _ _ is holds.kept holds.waiting holds.parts) kept.1)
    (c.keep.ensures.kept n bytes holds.kept holds.waiting holds.held)

pub returns-in_err-take-clause-any_moment : goal.returns-in_err-take-clause-any_moment
returns-in_err-take-clause-any_moment g c n bytes records named held =
    weaken (front_before bytes records _ _
    (c.as_slice.ensures.value ∙ c.put_record.ensures.record))
    (c.take.ensures.any_moment n bytes records [] (named, held))

pub returns-clause-any_moment : goal.returns-clause-any_moment
returns-clause-any_moment g c n bytes records named held =
    let is = c.as_slice.ensures.value ∙ c.put_record.ensures.record in
    let holds = c.in_ok-take.ensures.taken n bytes records [] (named, held) in
    then
    (weaken (front_before bytes records _ _ is)
    (c.take.ensures.any_moment n bytes records [] (named, held)))
    (weaken (front_behind bytes records _ _ is holds.kept holds.waiting holds.parts holds.no_fewer)
    (c.keep.ensures.any_moment n bytes holds.kept holds.waiting holds.held))
