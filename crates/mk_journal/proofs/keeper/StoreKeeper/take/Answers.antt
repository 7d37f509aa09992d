use Rattle.std.proofs.Common.{◌++◌, ◌∷◌, length, ap, sym, ◌∙◌, arith, length-append}
use Rattle.mk_journal.specs.Store.{framed}
use Rattle.mk_journal.specs.Keepers.{StoreOf}
use Rattle.mk_journal.proofs.Spelling.{length-framed}
use Rattle.mk_journal.proofs.Held.{one_waits, taken_more, ready_more}
use Rattle.mk_journal.proofs.keeper.StoreKeeper.take.Goals as goal

pub invariant_of-self : goal.invariant_of-self
invariant_of-self g c =
    omega (
      arith,
      ap length c.put.ensures,
      length-append c.self.inside.group (1 ∷ framed c.args.change.now),
      length-framed c.args.change.now,
      c.in_ok-make_room.ensures.room,
      ap (λ (s : StoreOf). length s.waiting) c.self.view_is,
    )

pub returns-clause-ready : goal.returns-clause-ready
returns-clause-ready g c n few is =
    ready_more _ (g.K.Disk.file c.make_room.new.disk) _ _ c.make_room.new.self _ c.args.change.now n c.requires.size c.make_room.ensures.stays_name
    (ap (λ (s : StoreOf). s.gate) c.self.view_is)
    (c.put.ensures ∙ ap (λ (s : StoreOf). s.waiting ++ 1 ∷ framed c.args.change.now) c.self.view_is)
    (c.in_ok-make_room.ensures.ready n few is)

pub returns-clause-taken : goal.returns-clause-taken
returns-clause-taken g c name market kept waiting held =
    taken_more _ _ (length kept) kept waiting c.args.change.now
    (λ k w h. (
      held.0 ∙ sym c.make_room.ensures.stays_name,
      one_waits c.make_room.new.self _ c.args.change.now c.requires.size (ap (λ (s : StoreOf). s.gate) c.self.view_is)
          (c.put.ensures ∙ ap (λ (s : StoreOf). s.waiting ++ 1 ∷ framed c.args.change.now) c.self.view_is) h,
    ))
    (c.in_ok-make_room.ensures.held name market kept waiting held.0 held.1)

pub returns-in_err-make_room-clause-any_moment : goal.returns-in_err-make_room-clause-any_moment
returns-in_err-make_room-clause-any_moment g c name market kept waiting held = c.make_room.ensures.any_moment name market kept waiting held.0 held.1

pub returns-clause-any_moment : goal.returns-clause-any_moment
returns-clause-any_moment g c name market kept waiting held = c.make_room.ensures.any_moment name market kept waiting held.0 held.1
