use Rattle.std.proofs.Common.{sym, ◌∙◌}
use Rattle.mk_journal.proofs.Stages.{ok_map}
use Rattle.mk_journal.proofs.keeper.StoreKeeper.keep.Goals as goal

pub returns-clause-kept : goal.returns-clause-kept
returns-clause-kept g c name market kept waiting held =
    ok_map c.commit.result (λ h. (held.0 ∙ sym c.commit.ensures.stays_name, h)) (c.commit.ensures.kept name market kept waiting held.0 held.1)

pub returns-clause-any_moment : goal.returns-clause-any_moment
returns-clause-any_moment g c name market kept waiting held = c.commit.ensures.any_moment name market kept waiting held.0 held.1
