use Rattle.std.proofs.Common.{ap, ◌∙◌}
use Rattle.mk_journal.specs.Keepers.{StoreOf}
use Rattle.mk_journal.specs.inner.MomentLaws.{weaken}
use Rattle.mk_journal.proofs.Held.{either_front, settled_at_gate}
use Rattle.mk_journal.proofs.keeper.Store.commit.Goals as goal

pub returns-in_err-self-inside-clause-any_moment : goal.returns-in_err-self-inside-clause-any_moment
returns-in_err-self-inside-clause-any_moment g c name market kept waiting named held =
    weaken (either_front market kept waiting)
    (c.commit.ensures.any_moment name market kept waiting named (ap (λ (s : StoreOf). s.waiting) c.self.view_is ∙ held.bytes) held.are (settled_at_gate _ _ c.self.view_is held.settled))

pub returns-clause-any_moment : goal.returns-clause-any_moment
returns-clause-any_moment g c name market kept waiting named held =
    weaken (either_front market kept waiting)
    (c.commit.ensures.any_moment name market kept waiting named (ap (λ (s : StoreOf). s.waiting) c.self.view_is ∙ held.bytes) held.are (settled_at_gate _ _ c.self.view_is held.settled))
