use Rattle.mk_journal.specs.inner.MomentLaws.{weaken}
use Rattle.mk_journal.proofs.Stages.{ok_map, behind, torn_gate, settled_then}
use Rattle.mk_journal.proofs.steps.open_gate.Goals as goal

pub returns-clause-settled : goal.returns-clause-settled
returns-clause-settled g c n market r records group named are is_staged =
    ok_map c.write_synced.result (settled_then r group is_staged are) (c.write_synced.ensures.kept n (behind r group is_staged) named is_staged.kept)

pub returns-clause-any_moment : goal.returns-clause-any_moment
returns-clause-any_moment g c n market r records group named are is_staged =
    weaken (torn_gate r group is_staged are) (c.write_synced.ensures.any_moment n (behind r group is_staged) named is_staged.kept)
