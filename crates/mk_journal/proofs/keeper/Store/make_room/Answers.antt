use Rattle.mk_journal.specs.inner.HeldLaws.{held_left}
use Rattle.mk_journal.specs.inner.MomentLaws.{started}
use Rattle.mk_journal.proofs.Stages.{ok_map}
use Rattle.mk_journal.proofs.Held.{all_kept}
use Rattle.mk_journal.proofs.keeper.Store.make_room.Goals as goal

pub returns-clause-held : goal.returns-clause-held
returns-clause-held g c name market kept waiting named held =
    ok_map c.commit.result (all_kept _ kept waiting) (c.commit.ensures.kept name market kept waiting named held)

pub returns-then-has_room-clause-any_moment : goal.returns-then-has_room-clause-any_moment
returns-then-has_room-clause-any_moment g c name market kept waiting named held = started (λ b left. held_left held b (g.met.K.Disk.only_now c.args.disk.now name b left))
